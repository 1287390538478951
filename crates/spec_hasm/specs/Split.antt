-- A name and its operands: `split_mnemonic_operands` of parse.rs (document 01, 'Assembler'). Assumes nothing.
use Rattle.std.specs.Prelude.{List, [], ◌∷◌, ℕ, eqb, length, take, drop}
use Rattle.lists.specs.Choice.{pick}
use Rattle.lists.specs.Scan.{run}
use Rattle.spec_hasm.specs.Text.{onto, is_solid, trim_start, trim}

-- "the operand splitter doesn't" honour a backslash: the parts between commas outside quotes, one at least
unfoldable mutual
  pub split_outside : List ℕ → List (List ℕ)
  split_outside [] = [] ∷ []
  split_outside (b ∷ s) = pick (eqb b 34) (onto b (split_inside s)) (pick (eqb b 44) ([] ∷ split_outside s) (onto b (split_outside s)))

  pub split_inside : List ℕ → List (List ℕ)
  split_inside [] = [] ∷ []
  split_inside (b ∷ s) = pick (eqb b 34) (onto b (split_outside s)) (onto b (split_inside s))

-- each part trimmed; one that is empty is an operand unless it is the last
unfoldable pub tokens_from : List ℕ → List (List ℕ) → List (List ℕ)
tokens_from p [] = pick (eqb (length (trim p)) 0) [] (trim p ∷ [])
tokens_from p (q ∷ ps) = trim p ∷ tokens_from q ps

unfoldable pub tokens : List (List ℕ) → List (List ℕ)
tokens [] = []
tokens (p ∷ ps) = tokens_from p ps

-- the name: what stands before the first white space; and the operands behind it
abbrev pub name_length : List ℕ → ℕ
name_length s = run is_solid s

unfoldable pub instruction_name : List ℕ → List ℕ
instruction_name s = take (name_length s) s

unfoldable pub instruction_operands : List ℕ → List (List ℕ)
instruction_operands s = tokens (split_outside (trim_start (drop (name_length s) s)))
