-- Document 01's number, place and operand of each refusal ('Numbers the desk returns'). Assumes nothing.
use Rattle.std.specs.Prelude.{ℕ}
use Rattle.answers.specs.Report.{Report, refusal}
use Rattle.answers.specs.declared.refusal.OperandFault.{OperandFault}
use Rattle.answers.specs.declared.refusal.OperandFault.TheVariants as fault
use Rattle.answers.specs.declared.refusal.Refusal.{Refusal}
use Rattle.answers.specs.declared.refusal.Refusal.TheVariants.{Malformed, BadByte, LongLine, UnknownName, OperandCount, BadOperand, Beyond, Cut, BadRecord, BadString, TooLarge, NoFunction}

-- "6 register token bad", "7 address token bad", "8 distance outside -128 to 127 for Addr8", "9 token opens with a quote and
-- isn't a quoted string", "10 text not in the string table", "11 unsigned, hex or Imm32 token bad", "12 Double token not of the
-- forms", "15 .. value doesn't fit its operand", "16 operand family or width can't be carried, or a string id has no text"
unfoldable pub fault_number : OperandFault → ℕ
fault_number fault.Register = 6
fault_number fault.Address = 7
fault_number fault.Distance = 8
fault_number fault.Quotes = 9
fault_number fault.Text = 10
fault_number fault.Number = 11
fault_number fault.Double = 12
fault_number fault.Misfit = 15
fault_number fault.NotCarried = 16

-- "An operand number goes only with 6 to 12, 16 and an operand's 15"
unfoldable pub refusal_report : Refusal → Report
refusal_report (Malformed line) = refusal 1 line 0
refusal_report (BadByte line) = refusal 2 line 0
refusal_report (LongLine place) = refusal 3 place 0
refusal_report (UnknownName place) = refusal 4 place 0
refusal_report (OperandCount place) = refusal 5 place 0
refusal_report (BadOperand f place operand) = refusal (fault_number f) place operand
refusal_report (Beyond place) = refusal 13 place 0
refusal_report (Cut place) = refusal 14 place 0
refusal_report (BadRecord index) = refusal 15 index 0
refusal_report (BadString id) = refusal 17 id 0
refusal_report TooLarge = refusal 18 0 0
refusal_report (NoFunction id) = refusal 20 id 0
