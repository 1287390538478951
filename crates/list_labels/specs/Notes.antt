-- Offsets as they are noted while a body is walked. Assumes nothing.
use Rattle.std.specs.Prelude.{List, [], ◌∷◌, ℕ, suc, Bool, true, false, ltb, leb, length, get_or, set}
use Rattle.lists.specs.Choice.{pick, both}
use Rattle.list_labels.specs.declared.offset_set.Counts.{Counts}

-- a flag for each near offset and how many of them are set; the far offsets, those past the flags that lie in a range, as they
-- were met, and how many those are
pub record Notes : Type 0 where
  pub flags : List Bool
  pub near : ℕ
  pub stored : List ℕ
  pub far : ℕ
  pub low : ℕ
  pub high : ℕ

abbrev pub notes_of : List Bool → List ℕ → Counts → Notes
notes_of flags stored counts = record { flags = flags; near = counts.near; stored = stored; far = counts.far; low = counts.low; high = counts.high }

-- a near offset is flagged and counted
abbrev pub with_flag : Notes → ℕ → Notes
with_flag n x = record { flags = set n.flags x true; near = suc n.near; stored = n.stored; far = n.far; low = n.low; high = n.high }

-- a far one is stored, where there is room, and counted
abbrev pub with_far : Notes → ℕ → Notes
with_far n x = record { flags = n.flags; near = n.near; stored = set n.stored n.far x; far = suc n.far; low = n.low; high = n.high }

abbrev pub in_range : ℕ → ℕ → ℕ → Bool
in_range low high x = both (leb low x) (ltb x high)

-- one offset more: a near one counts where it was not flagged, a far one of the range always
unfoldable pub note : Notes → ℕ → Notes
note n x = pick (ltb x (length n.flags)) (pick (get_or n.flags x false) n (with_flag n x)) (pick (in_range n.low n.high x) (with_far n x) n)

unfoldable pub note_all : Notes → List ℕ → Notes
note_all n [] = n
note_all n (x ∷ xs) = note_all (note n x) xs
