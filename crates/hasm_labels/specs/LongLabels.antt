-- The labels that the list holds: "the label table serves only `L` alone or digits past u32". Assumes nothing.
use Rattle.std.specs.Prelude.{Bool, List, [], ◌∷◌, ℕ, ltb, length}
use Rattle.lists.specs.Choice.{pick}
use Rattle.spec_hasm.specs.Assemble.{LabelAt}

-- the label `L` alone
abbrev pub bare_label : List ℕ
bare_label = 76 ∷ []

-- `L` and more than nine digits: fewer are a u32
unfoldable pub is_long : List ℕ → Bool
is_long s = ltb 10 (length s)

-- the labels that have so many
unfoldable pub long_of : List LabelAt → List LabelAt
long_of [] = []
long_of (l ∷ ls) = pick (is_long l.text) (l ∷ long_of ls) (long_of ls)
