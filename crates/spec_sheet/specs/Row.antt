-- A row of type codes, as an opcode has it (document 01, 'Decoder and encoder'). Assumes nothing.
use Rattle.std.specs.Prelude.{List, [], ◌∷◌, ℕ, ◌+◌, eqb}
use Rattle.lists.specs.Choice.{pick}
use Rattle.spec_sheet.specs.Types.{width_of}

-- a sum over a list
unfoldable pub sum_by : (ℕ → ℕ) → List ℕ → ℕ
sum_by f [] = 0
sum_by f (c ∷ cs) = f c + sum_by f cs

-- the bytes of the operands of a row of type codes, and of the whole instruction
abbrev pub total_width : List ℕ → ℕ
total_width row = sum_by width_of row

abbrev pub length_of : List ℕ → ℕ
length_of row = 1 + total_width row

-- how many operands a row has
abbrev pub one_for : ℕ → ℕ
one_for c = pick (eqb c 0) 0 1

abbrev pub count_of : List ℕ → ℕ
count_of row = sum_by one_for row
