-- The passes over a text: `parse_hasm_function`, then `encode_function_body` (document 01, 'Assembler' and its order). Assumes nothing.
use Rattle.std.specs.Prelude.{Bool, List, [], ◌∷◌, ◌++◌, ℕ, suc, ◌+◌, eqb, ltb, length, get_or, drop}
use Rattle.lists.specs.Choice.{pick, either, within}
use Rattle.lists.specs.Scan.{all, same}
use Rattle.lists.specs.Found.{Found}
use Rattle.lists.specs.Found.Found.{found, missing}
use Rattle.answers.specs.declared.refusal.Refusal.{Refusal}
use Rattle.answers.specs.declared.refusal.Refusal.TheVariants.{BadByte, LongLine, UnknownName, OperandCount, BadOperand}
use Rattle.answers.specs.declared.refusal.OperandFault.{OperandFault}
use Rattle.spec_numbers.specs.LittleEndian.{le_bytes}
use Rattle.spec_sheet.specs.Types.{width_of}
use Rattle.spec_sheet.specs.Row.{length_of, count_of}
use Rattle.spec_inputs.specs.Context.{Context}
use Rattle.limits.specs.Limits.{line_limit}
use Rattle.spec_hasm.specs.Text.{lines_of}
use Rattle.spec_hasm.specs.Split.{instruction_name, instruction_operands}
use Rattle.spec_hasm.specs.Line.{Statement, statement_of, opcode_named}
use Rattle.spec_hasm.specs.Line.Statement.{nothing, labelled, instruction}
use Rattle.spec_hasm.specs.Token.{Value, token_value}
use Rattle.spec_hasm.specs.Token.Value.{value, refused}

-- a text that was assembled, or its refusal, at a line
pub data Assembled : Type 0 where
  assembled : List ℕ → Assembled
  not_assembled : Refusal → Assembled

-- 2 refuses any "text byte other than 9, 10, 13, 32 to 126"
unfoldable pub is_text_byte : ℕ → Bool
is_text_byte b = either (within 9 10 b) (either (eqb b 13) (within 32 126 b))

-- "3 then 2, line by line", from line n on, then what follows
unfoldable pub unless_bad_line : ℕ → List (List ℕ) → Assembled → Assembled
unless_bad_line n [] rest = rest
unless_bad_line n (l ∷ ls) rest =
    pick (ltb line_limit (length l)) (not_assembled (LongLine n)) (pick (all is_text_byte l) (unless_bad_line (suc n) ls rest) (not_assembled (BadByte n)))

-- a label's line: its number, and the label's text
pub record LabelLine : Type 0 where
  pub line : ℕ
  pub text : List ℕ

-- an instruction of the text: its line, the label lines between it and the instruction before, the nearest first, its name and
-- its operands
pub record Code : Type 0 where
  pub line : ℕ
  pub labels : List LabelLine
  pub name : List ℕ
  pub operands : List (List ℕ)

-- a text's instructions, and the label lines behind the last of them, the nearest to the end first
pub record Program : Type 0 where
  pub codes : List Code
  pub trailing : List LabelLine

abbrev pub with_code : Code → Program → Program
with_code c p = record { codes = c ∷ p.codes; trailing = p.trailing }

-- a line that is read: a label waits for the next instruction, beside those that wait
unfoldable pub on_statement : ℕ → List LabelLine → Statement → (List LabelLine → Program) → Program
on_statement n waiting nothing rest = rest waiting
on_statement n waiting (labelled t) rest = rest (record { line = n; text = t } ∷ waiting)
on_statement n waiting (instruction s) rest =
    with_code (record { line = n; labels = waiting; name = instruction_name s; operands = instruction_operands s }) (rest [])

-- the lines from line n on, behind label lines that wait
unfoldable pub program_from : Context → ℕ → List LabelLine → List (List ℕ) → Program
program_from e n waiting [] = record { codes = []; trailing = waiting }
program_from e n waiting (l ∷ ls) = on_statement n waiting (statement_of e l) λ next. program_from e (suc n) next ls

abbrev pub codes_from : Context → ℕ → List LabelLine → List (List ℕ) → List Code
codes_from e n waiting ls = (program_from e n waiting ls).codes

-- the type codes of an opcode
abbrev pub row_of : Context → ℕ → List ℕ
row_of e opcode = get_or e.types opcode []

-- 4 and 5 of an instruction, then what follows
unfoldable pub on_name : Context → Code → Found → Assembled → Assembled
on_name e c (found opcode) rest = pick (eqb (length c.operands) (count_of (row_of e opcode))) rest (not_assembled (OperandCount c.line))
on_name e c missing rest = not_assembled (UnknownName c.line)

-- "then 4 and 5 over all lines"
unfoldable pub unless_bad_name : Context → List Code → Assembled → Assembled
unless_bad_name e [] rest = rest
unless_bad_name e (c ∷ cs) rest = on_name e c (opcode_named e c.name) (unless_bad_name e cs rest)

-- the opcode of a name that the sheet has
unfoldable pub found_in : Found → ℕ
found_in (found opcode) = opcode
found_in missing = 0

abbrev pub opcode_in : Context → Code → ℕ
opcode_in e c = found_in (opcode_named e c.name)

abbrev pub size_in : Context → Code → ℕ
size_in e c = length_of (row_of e (opcode_in e c))

-- "A label is held by its text part and offset"
pub record LabelAt : Type 0 where
  pub text : List ℕ
  pub offset : ℕ

-- "of several in a row, the last" is taken; those behind the last instruction are not
unfoldable pub holding : List LabelLine → ℕ → List LabelAt → List LabelAt
holding [] at rest = rest
holding (l ∷ ls) at rest = record { text = l.text; offset = at } ∷ rest

-- the labels that instructions take, the first of which stands at `at`
unfoldable pub labels_from : Context → ℕ → List Code → List LabelAt
labels_from e at [] = []
labels_from e at (c ∷ cs) = holding c.labels at (labels_from e (at + size_in e c) cs)

-- a label's offset: of equal texts the last counts, as a `HashMap` keeps the last one inserted
unfoldable pub unless_found : Found → Found → Found
unless_found (found offset) first = found offset
unless_found missing first = first

unfoldable pub label_offset : List LabelAt → List ℕ → Found
label_offset [] t = missing
label_offset (l ∷ ls) t = unless_found (label_offset ls t) (pick (same l.text t) (found l.offset) missing)

-- the bytes of an instruction's operands, or what is wrong with which one
pub data Operands : Type 0 where
  written : List ℕ → Operands
  refused_operand : OperandFault → ℕ → Operands

unfoldable pub prepend : List ℕ → Operands → Operands
prepend bs (written rest) = written (bs ++ rest)
prepend bs (refused_operand f operand) = refused_operand f operand

-- "Narrow registers, numbers and string ids keep their low bits"
unfoldable pub on_value : ℕ → ℕ → Value → Operands → Operands
on_value width operand (value bits) rest = prepend (le_bytes width bits) rest
on_value width operand (refused f) rest = refused_operand f operand

-- the operands from number n on of the instruction at `at`
unfoldable pub operands_from : Context → (List ℕ → Found) → ℕ → ℕ → List ℕ → List (List ℕ) → Operands
operands_from e labels at n [] ts = written []
operands_from e labels at n (code ∷ codes) ts =
    let rest = operands_from e labels at (suc n) codes (drop 1 ts) in
    pick (eqb code 0) (written []) (on_value (width_of code) n (token_value e.bytes e.ends labels at code (get_or ts 0 [])) rest)

unfoldable pub behind : List ℕ → Assembled → Assembled
behind bs (assembled rest) = assembled (bs ++ rest)
behind bs (not_assembled x) = not_assembled x

unfoldable pub on_operands : ℕ → ℕ → Operands → Assembled → Assembled
on_operands opcode line (written bs) rest = behind (opcode ∷ bs) rest
on_operands opcode line (refused_operand f operand) rest = not_assembled (BadOperand f line operand)

-- "then 6 to 12 by line and operand": the instructions from offset `at` on
unfoldable pub bytes_from : Context → (List ℕ → Found) → ℕ → List Code → Assembled
bytes_from e labels at [] = assembled []
bytes_from e labels at (c ∷ cs) =
    let rest = bytes_from e labels (at + size_in e c) cs in
    on_operands (opcode_in e c) c.line (operands_from e labels at 1 (row_of e (opcode_in e c)) c.operands) rest

-- the instructions of a text
abbrev pub codes_of : Context → List ℕ → List Code
codes_of e s = codes_from e 1 [] (lines_of s)

-- "By passes, not in one"
unfoldable pub assemble_codes : Context → List Code → Assembled
assemble_codes e cs = unless_bad_name e cs (bytes_from e (label_offset (labels_from e 0 cs)) 0 cs)

unfoldable pub assemble_text : Context → List ℕ → Assembled
assemble_text e s = unless_bad_line 1 (lines_of s) (assemble_codes e (codes_of e s))

-- "one entry for each label line that an instruction takes"
abbrev pub assemble_entries : Context → List ℕ → ℕ
assemble_entries e s = length (labels_from e 0 (codes_of e s))
