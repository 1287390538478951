-- What collecting a body's label offsets answers and leaves. Assumes nothing.
use Rattle.std.specs.Prelude.{◌≡◌, Bool, false, List, ℕ, ◌+◌, ◌≤◌, ◌<◌, length, get_or, Result, Ok, Err}
use Rattle.answers.specs.declared.refusal.Refusal.{Refusal}
use Rattle.spec_body.specs.Decode.{Decoded}
use Rattle.spec_body.specs.Decode.Decoded.{decoded, not_decoded}
use Rattle.spec_listing.specs.Labels.{among, different}
use Rattle.list_labels.specs.OpcodeRows.{Opcodes, row_labels}
use Rattle.list_labels.specs.Parts.{within}
use Rattle.list_labels.specs.Notes.{Notes, note_all}
use Rattle.list_labels.specs.declared.collect.Met.{Met}

-- flags and room for far offsets of a range before a walk
abbrev pub unnoted : List Bool → List ℕ → ℕ → ℕ → Notes
unnoted flags stored low high = record { flags = flags; near = 0; stored = stored; far = 0; low = low; high = high }

-- and behind it, where all instructions were noted
abbrev pub notes_after : Opcodes → Notes → List (List ℕ) → Notes
notes_after o n rs = note_all n (row_labels o rs)

-- the counts that notes hold
abbrev pub met_in : Notes → Met
met_in n = record { near = n.near; far = n.far }

-- a walk from given notes: how many near offsets it flagged and how many far ones it met, or why decoding refuses
unfoldable pub walk_of : Opcodes → Notes → Decoded → Result Met Refusal
walk_of o n (decoded rs) = Ok (met_in (notes_after o n rs))
walk_of o n (not_decoded x) = Err x

-- how many offsets a walk counted
unfoldable pub walked_count : Result Met Refusal → ℕ
walked_count (Ok met) = met.near + met.far
walked_count (Err x) = 0

-- how many entries are needed is counted exactly where more would be needed than are lent; else n is no less
abbrev pub EntriesFor : ℕ → ℕ → ℕ → Type 0
EntriesFor lent needed n = (needed ≤ n) × (lent < n → n ≡ needed)

-- the label entries of a body that is decoded, "each different offset of collect_label_offsets"; else why decoding refuses
pub data CollectedFor (lent : ℕ) (o : Opcodes) (d : Decoded) (r : Result ℕ Refusal) : Type 0 where
  counted : (rs : List (List ℕ)) (n : ℕ) → d ≡ decoded rs → r ≡ Ok n → EntriesFor lent (different (row_labels o rs)) n → CollectedFor lent o d r
  refused : (x : Refusal) → d ≡ not_decoded x → r ≡ Err x → CollectedFor lent o d r

-- a flag is set exactly where its offset is a label
abbrev pub Flagged : List ℕ → List Bool → Type 0
Flagged labels flags = (i : ℕ) → i < length flags → get_or flags i false ≡ among i labels

-- what a walk over these instructions leaves of flags and room
abbrev pub Noted : Opcodes → List (List ℕ) → Notes → List Bool → List ℕ → Type 0
Noted o rs n flags stored = (flags ≡ (notes_after o n rs).flags) × (stored ≡ (notes_after o n rs).stored)

-- the different offsets of a range, where the body is decoded
abbrev pub FarCounted : Opcodes → Decoded → ℕ → ℕ → ℕ → Type 0
FarCounted o d low high far = (rs : List (List ℕ)) → d ≡ decoded rs → far ≡ different (within low high (row_labels o rs))
