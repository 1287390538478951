-- An answer's numbers, field by field and case by case. Assumes nothing.
use mathlib.Core.Path.{◌≡◌, refl, ap}
use Prim.Native.Nat.{◌<◌}
use native.Mathlib.Omega.{arith}
use Rattle.answers.specs.Report.{Report}
use Rattle.answers.specs.Refusals.{fault_number, refusal_report}
use Rattle.answers.specs.Numbers.{numbers_of, report_in}
use Rattle.answers.specs.declared.report.Numbers.{Numbers}
use Rattle.answers.specs.declared.refusal.OperandFault.{OperandFault}
use Rattle.answers.specs.declared.refusal.OperandFault.TheVariants as fault
use Rattle.answers.specs.declared.refusal.Refusal.{Refusal}
use Rattle.answers.specs.declared.refusal.Refusal.TheVariants.{Malformed, BadByte, LongLine, UnknownName, OperandCount, BadOperand, Beyond, Cut, BadRecord, BadString, TooLarge, NoFunction}

-- the report that the numbers of a report are
pub same_report : {answer : Report} {n : Numbers} → n ≡ numbers_of answer → report_in n ≡ answer
same_report q = ap report_in q

-- no refusal has the number of a result
fault_some : (f : OperandFault) → 0 < fault_number f
unfolding fault_number
fault_some fault.Register = omega arith
fault_some fault.Address = omega arith
fault_some fault.Distance = omega arith
fault_some fault.Quotes = omega arith
fault_some fault.Text = omega arith
fault_some fault.Number = omega arith
fault_some fault.Double = omega arith
fault_some fault.Misfit = omega arith
fault_some fault.NotCarried = omega arith

pub number_some : (x : Refusal) → 0 < (refusal_report x).number
unfolding refusal_report
number_some (Malformed line) = omega arith
number_some (BadByte line) = omega arith
number_some (LongLine place) = omega arith
number_some (UnknownName place) = omega arith
number_some (OperandCount place) = omega arith
number_some (BadOperand f place operand) = fault_some f
number_some (Beyond place) = omega arith
number_some (Cut place) = omega arith
number_some (BadRecord index) = omega arith
number_some (BadString id) = omega arith
number_some TooLarge = omega arith
number_some (NoFunction id) = omega arith

-- and none has 19, which the lent space decides
fault_not_short : (f : OperandFault) → fault_number f < 19
unfolding fault_number
fault_not_short fault.Register = omega arith
fault_not_short fault.Address = omega arith
fault_not_short fault.Distance = omega arith
fault_not_short fault.Quotes = omega arith
fault_not_short fault.Text = omega arith
fault_not_short fault.Number = omega arith
fault_not_short fault.Double = omega arith
fault_not_short fault.Misfit = omega arith
fault_not_short fault.NotCarried = omega arith

pub not_short : (x : Refusal) → (refusal_report x).number ≡ 19 → ⊥
unfolding refusal_report
not_short (Malformed line) e = omega (arith, e)
not_short (BadByte line) e = omega (arith, e)
not_short (LongLine place) e = omega (arith, e)
not_short (UnknownName place) e = omega (arith, e)
not_short (OperandCount place) e = omega (arith, e)
not_short (BadOperand f place operand) e = omega (arith, e, fault_not_short f)
not_short (Beyond place) e = omega (arith, e)
not_short (Cut place) e = omega (arith, e)
not_short (BadRecord index) e = omega (arith, e)
not_short (BadString id) e = omega (arith, e)
not_short TooLarge e = omega (arith, e)
not_short (NoFunction id) e = omega (arith, e)

-- "length 0"
pub no_length : (x : Refusal) → (refusal_report x).length ≡ 0
unfolding refusal_report
no_length (Malformed line) = refl
no_length (BadByte line) = refl
no_length (LongLine place) = refl
no_length (UnknownName place) = refl
no_length (OperandCount place) = refl
no_length (BadOperand f place operand) = refl
no_length (Beyond place) = refl
no_length (Cut place) = refl
no_length (BadRecord index) = refl
no_length (BadString id) = refl
no_length TooLarge = refl
no_length (NoFunction id) = refl
