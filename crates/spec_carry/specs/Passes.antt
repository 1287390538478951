-- The cases of the carry list that instructions have, and what the instructions are carried to (document 01, 'Carrying').
-- Assumes nothing.
use Rattle.std.specs.Prelude.{Bool, not, List, [], ◌∷◌, ◌++◌, ℕ, suc, ◌+◌, ◌-◌, ◌*◌, ◌^◌, eqb, leb, ltb, get_or, drop}
use Rattle.lists.specs.Choice.{pick, both, within}
use Rattle.lists.specs.Found.{Found}
use Rattle.lists.specs.Found.Found.{found, missing}
use Rattle.spec_numbers.specs.LittleEndian.{le_bytes}
use Rattle.answers.specs.declared.refusal.Refusal.TheVariants.{UnknownName, OperandCount, BadOperand}
use Rattle.answers.specs.declared.refusal.OperandFault.TheVariants.{NotCarried, Text, Address, Distance}
use Rattle.spec_sheet.specs.Types.{width_of, family_of, reg_family, uint_family, string_family, addr_family, addr8}
use Rattle.spec_sheet.specs.Row.{length_of, count_of}
use Rattle.spec_sheet.specs.Sheet.{find_name, is_missing}
use Rattle.spec_strings.specs.Table.{lookup}
use Rattle.spec_inputs.specs.Context.{Context, name_of, has_text, text_at}
use Rattle.spec_body.specs.Record.{offset_of, opcode_of, pairs_of}
use Rattle.spec_carry.specs.Meaning.{target_in}
use Rattle.spec_carry.specs.Cases.{Case, case}

-- what a search found, else 0
unfoldable pub or_zero : Found → ℕ
or_zero (found k) = k
or_zero missing = 0

-- both contexts; the places before: the starts of the instructions and the body's length; the places behind: those of the result
pub record Carrying : Type 0 where
  pub from : Context
  pub into : Context
  pub places : List ℕ
  pub moved : List ℕ

-- the second sheet's opcode of an opcode's name
abbrev pub opcode_into : Context → Context → ℕ → Found
opcode_into from into opcode = find_name into.sheet (name_of from opcode) 0 into.infos

abbrev pub new_opcode : Context → Context → List ℕ → ℕ
new_opcode from into r = or_zero (opcode_into from into (opcode_of r))

-- the type codes of an instruction under both sheets
abbrev pub old_row : Context → List ℕ → List ℕ
old_row from r = get_or from.types (opcode_of r) []

abbrev pub new_row : Context → Context → List ℕ → List ℕ
new_row from into r = get_or into.types (new_opcode from into r) []

-- the starts of the carried instructions and the result's length: each stands behind the one before
unfoldable pub moved_from : Context → Context → ℕ → List (List ℕ) → List ℕ
moved_from from into at [] = at ∷ []
moved_from from into at (r ∷ rs) = at ∷ moved_from from into (at + length_of (new_row from into r)) rs

-- "if the second table lacks the text, else its first id"
abbrev pub new_id : Carrying → ℕ → Found
new_id x id = lookup (text_at x.from id) x.into.bytes x.into.ends

-- the target of an Addr of the instruction at `at`, as an index among the places
abbrev pub old_target : Carrying → ℕ → ℕ → ℕ → Found
old_target x at code bits = target_in x.places (width_of code) at bits

-- where that target stands in the result
abbrev pub new_place : Carrying → ℕ → ℕ → ℕ → ℕ
new_place x at code bits = get_or x.moved (or_zero (old_target x at code bits)) 0

-- a number of no more bytes than its type has
abbrev pub fits : ℕ → ℕ → Bool
fits code v = ltb v (256 ^ width_of code)

-- not "8 distance outside -128 to 127"
unfoldable pub near : ℕ → ℕ → Bool
near at place = both (leb at (place + 128)) (leb place (at + 127))

-- the q-th operand of the instruction i at `at` in the first pass, with type code c under the first sheet and d under the second:
-- "16 if they [the families] differ or a register or number doesn't fit; a string is 16 without text, 10 if the second table lacks
-- the text, else its first id, 16 if that doesn't fit; an Addr is 7 unless offset plus distance is an instruction's start or the
-- body's length"
unfoldable pub operand_cases : Carrying → ℕ → ℕ → ℕ → ℕ → ℕ → ℕ → List Case
operand_cases x i at q c d bits =
    case (not (eqb (family_of c) (family_of d))) (BadOperand NotCarried i q)
    ∷ case (both (within reg_family uint_family (family_of c)) (not (fits d bits))) (BadOperand NotCarried i q)
    ∷ case (both (eqb (family_of c) string_family) (not (has_text x.from bits))) (BadOperand NotCarried i q)
    ∷ case (both (eqb (family_of c) string_family) (is_missing (new_id x bits))) (BadOperand Text i q)
    ∷ case (both (eqb (family_of c) string_family) (not (fits d (or_zero (new_id x bits))))) (BadOperand NotCarried i q)
    ∷ case (both (eqb (family_of c) addr_family) (is_missing (old_target x at c bits))) (BadOperand Address i q)
    ∷ []

unfoldable pub operands_cases : Carrying → ℕ → ℕ → ℕ → List ℕ → List ℕ → List ℕ → List Case
operands_cases x i at q [] ds pairs = []
operands_cases x i at q (c ∷ cs) ds pairs =
    operand_cases x i at q c (get_or ds 0 0) (get_or pairs 1 0) ++ operands_cases x i at (suc q) cs (drop 1 ds) (drop 2 pairs)

-- "First pass, by instruction: 4 if the second lacks the name (always for "<invalid>"), 5; then by operand"; no name of a sheet is
-- "<invalid>"
unfoldable pub first_pass : Carrying → ℕ → List (List ℕ) → List Case
first_pass x i [] = []
first_pass x i (r ∷ rs) =
    let old = old_row x.from r in
    let new = new_row x.from x.into r in
    case (is_missing (opcode_into x.from x.into (opcode_of r))) (UnknownName i)
    ∷ case (not (eqb (count_of old) (count_of new))) (OperandCount i)
    ∷ operands_cases x i (offset_of r) 1 old new (pairs_of r) ++ first_pass x (suc i) rs

-- "distances from the new offsets, 8": only an Addr8 can be too far
unfoldable pub far_cases : Carrying → ℕ → ℕ → ℕ → List ℕ → List ℕ → List ℕ → List Case
far_cases x i at q [] ds pairs = []
far_cases x i at q (c ∷ cs) ds pairs =
    case (both (eqb (get_or ds 0 0) addr8) (not (near (get_or x.moved i 0) (new_place x at c (get_or pairs 1 0))))) (BadOperand Distance i q)
    ∷ far_cases x i at (suc q) cs (drop 1 ds) (drop 2 pairs)

-- "Second pass: each is written .., 8"
unfoldable pub second_pass : Carrying → ℕ → List (List ℕ) → List Case
second_pass x i [] = []
second_pass x i (r ∷ rs) =
    far_cases x i (offset_of r) 1 (old_row x.from r) (new_row x.from x.into r) (pairs_of r) ++ second_pass x (suc i) rs

-- the two's complement of a distance in w bytes
unfoldable pub distance_bits : ℕ → ℕ → ℕ → ℕ
distance_bits w at place = pick (leb at place) (place - at) (2 ^ (8 * w) - (at - place))

-- "its registers, numbers and double bits, the ids found, and distances from the new offsets": what is written of an operand of the
-- instruction that stood at `at` and stands at `new`
unfoldable pub new_bits : Carrying → ℕ → ℕ → ℕ → ℕ → ℕ → ℕ
new_bits x at new c d bits =
    pick (eqb (family_of c) string_family) (or_zero (new_id x bits))
    (pick (eqb (family_of c) addr_family) (distance_bits (width_of d) new (new_place x at c bits)) bits)

unfoldable pub new_operands : Carrying → ℕ → ℕ → List ℕ → List ℕ → List ℕ → List ℕ
new_operands x at new cs [] pairs = []
new_operands x at new cs (d ∷ ds) pairs =
    le_bytes (width_of d) (new_bits x at new (get_or cs 0 0) d (get_or pairs 1 0)) ++ new_operands x at new (drop 1 cs) ds (drop 2 pairs)

-- "each is written with the second sheet's opcode of its name": the instructions from index i on
unfoldable pub new_bytes : Carrying → ℕ → List (List ℕ) → List ℕ
new_bytes x i [] = []
new_bytes x i (r ∷ rs) =
    new_opcode x.from x.into r ∷ new_operands x (offset_of r) (get_or x.moved i 0) (old_row x.from r) (new_row x.from x.into r) (pairs_of r)
    ++ new_bytes x (suc i) rs
