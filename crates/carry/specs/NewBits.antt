-- What is written of an operand, or why it cannot be carried, by its widths and what stands for ids and places. Assumes nothing.
use Rattle.std.specs.Prelude.{◌≡◌, Bool, true, false, not, ◌⊎◌, List, ℕ, zero, suc, ◌+◌, ◌-◌, ◌*◌, ◌^◌, Option, None, Some, Result, Ok, Err, eqb, ltb, length, get_or}
use Rattle.lists.specs.Choice.{pick, both}
use Rattle.answers.specs.Outcome.{Outcome}
use Rattle.answers.specs.Outcome.Outcome.{refused_with}
use Rattle.answers.specs.declared.refusal.Refusal.TheVariants.{BadOperand}
use Rattle.answers.specs.declared.refusal.OperandFault.{OperandFault}
use Rattle.answers.specs.declared.refusal.OperandFault.TheVariants.{NotCarried, Text, Address}
use Rattle.spec_sheet.specs.Types.{addr8}
use Rattle.spec_carry.specs.Cases.{unless_case}
use Rattle.spec_carry.specs.Passes.{Carrying, operand_cases, near, distance_bits, new_place, new_bits}

-- an operand's new bits, none where it is too far, or why it cannot be carried
abbrev pub NewBits : Type 0
NewBits = Result (Option ℕ) OperandFault

-- an operand in the first pass, the q-th of the instruction i: its refusal, or what follows
unfoldable pub on_moved : NewBits → ℕ → ℕ → Outcome → Outcome
on_moved (Ok n) i q rest = rest
on_moved (Err f) i q rest = refused_with (BadOperand f i q)

-- a number into a type of w bytes
abbrev pub number_into : ℕ → ℕ → Result ℕ OperandFault
number_into w n = pick (ltb n (256 ^ w)) (Ok n) (Err NotCarried)

-- a string, by what stands for its id, which is 1 more than the id
unfoldable pub mark_into : ℕ → ℕ → Result ℕ OperandFault
mark_into w zero = Err Text
mark_into w (suc k) = number_into w k

abbrev pub id_into : ℕ → ℕ → List ℕ → Result ℕ OperandFault
id_into w id ids = pick (ltb id (length ids)) (mark_into w (get_or ids id 0)) (Err NotCarried)

-- what is not too far
abbrev pub near_bits : Result ℕ OperandFault → NewBits
near_bits (Ok n) = Ok (Some n)
near_bits (Err f) = Err f

-- an Addr has one byte, or four
abbrev pub AddrWidth : ℕ → Type 0
AddrWidth w = (w ≡ 1) ⊎ (w ≡ 4)

-- what stands for the place that an Addr of w bytes leads to, 0 where there is none: the bits of a negative distance lie in the
-- upper half
abbrev pub target_mark : ℕ → ℕ → ℕ → List ℕ → ℕ
target_mark w at bits map =
    pick (ltb bits (2 ^ (8 * w - 1))) (get_or map (at + bits) 0)
    (pick (ltb (at + bits) (2 ^ (8 * w))) 0 (get_or map (at + bits - 2 ^ (8 * w)) 0))

-- the distance in an Addr of w bytes from `at` to a place
abbrev pub distance_into : ℕ → ℕ → ℕ → Option ℕ
distance_into w at place = pick (both (eqb w 1) (not (near at place))) None (Some (distance_bits w at place))

-- to the place that a mark stands for, which is 1 more than the place
abbrev pub address_into : ℕ → ℕ → ℕ → NewBits
address_into w at mark = pick (eqb mark 0) (Err Address) (Ok (distance_into w at (mark - 1)))

-- 8 holds of an operand of the instruction i
abbrev pub is_far : Carrying → ℕ → ℕ → ℕ → ℕ → ℕ → Bool
is_far x i at c d bits = both (eqb d addr8) (not (near (get_or x.moved i 0) (new_place x at c bits)))

-- the q-th operand of the instruction i passes the first pass, and its bits in the second are these or it is too far; or the first
-- pass refuses it
pub data Moved (x : Carrying) (i at q new c d bits : ℕ) (r : NewBits) : Type 0 where
  has_bits : (n : ℕ) → r ≡ Ok (Some n) → ((rest : Outcome) → unless_case (operand_cases x i at q c d bits) rest ≡ rest) → is_far x i at c d bits ≡ false
      → n ≡ new_bits x at new c d bits → Moved x i at q new c d bits r
  too_far : r ≡ Ok None → ((rest : Outcome) → unless_case (operand_cases x i at q c d bits) rest ≡ rest) → is_far x i at c d bits ≡ true → Moved x i at q new c d bits r
  is_refused : (f : OperandFault) → r ≡ Err f → ((rest : Outcome) → unless_case (operand_cases x i at q c d bits) rest ≡ refused_with (BadOperand f i q))
      → Moved x i at q new c d bits r
