-- What a line is: nothing, a label or an instruction (parse_hasm_function's first pass; document 01, 'Assembler'). Assumes nothing.
use Rattle.std.specs.Prelude.{Bool, List, ℕ, ◌-◌, eqb, ltb, length, get_or, take, drop}
use Rattle.lists.specs.Choice.{pick, both, either}
use Rattle.lists.specs.Scan.{run, all, opens}
use Rattle.lists.specs.Text.{text}
use Rattle.lists.specs.Found.{Found}
use Rattle.spec_numbers.specs.Parse.{digit_value}
use Rattle.spec_sheet.specs.Scan.{is_digit, is_upper, is_lower}
use Rattle.spec_sheet.specs.Sheet.{find_name, is_missing}
use Rattle.spec_inputs.specs.Context.{Context}
use Rattle.spec_hasm.specs.Text.{is_white, trim_start, trim}
use Rattle.spec_hasm.specs.Comment.{strip_comment}

-- an empty line or a banner, by what is left of it without comment and white space
unfoldable pub is_skipped : List ℕ → Bool
is_skipped s =
    either (eqb (length s) 0) (either (opens (text "function ") s) (either (opens (text "; ") s) (opens (text "Function") s)))

-- a label's line: `L`, digits or none, and a colon
unfoldable pub is_label : List ℕ → Bool
is_label s =
    let behind = drop 1 (take (length s - 1) s) in
    both (eqb (get_or s 0 0) 76) (both (eqb (get_or s (length s - 1) 0) 58) (all is_digit behind))

-- the opcode of a name, if the sheet has it
abbrev pub opcode_named : Context → List ℕ → Found
opcode_named e name = find_name e.sheet name 0 e.infos

abbrev pub is_hex_digit : ℕ → Bool
is_hex_digit b = ltb (digit_value b) 16

abbrev pub is_letter : ℕ → Bool
is_letter b = either (is_upper b) (is_lower b)

-- what opens a hex number
unfoldable pub has_hex_prefix : List ℕ → Bool
has_hex_prefix s = either (opens (text "0x") s) (opens (text "0X") s)

unfoldable pub behind_hex_mark : List ℕ → List ℕ
behind_hex_mark s = pick (has_hex_prefix s) (drop 2 s) s

-- `strip_offset_prefix`: hex digits that are a token and no name of the sheet ("stripping `Add` as an offset" is a mistake), in
-- front of a letter
unfoldable pub is_offset : Context → List ℕ → ℕ → Bool
is_offset e s k =
    both (ltb 0 k) (both (is_white (get_or s k 0)) (both (is_missing (opcode_named e (take k s))) (is_letter (get_or (trim_start (drop k s)) 0 0))))

unfoldable pub behind_offset : Context → List ℕ → List ℕ
behind_offset e s =
    let digits = behind_hex_mark s in
    let k = run is_hex_digit digits in
    pick (is_offset e digits k) (trim_start (drop k digits)) s

-- what a line is; a label by its text without the colon, an instruction by its name and operands
pub data Statement : Type 0 where
  nothing : Statement
  labelled : List ℕ → Statement
  instruction : List ℕ → Statement

unfoldable pub statement_in : Context → List ℕ → Statement
statement_in e s =
    pick (is_skipped s) nothing (pick (is_label s) (labelled (take (length s - 1) s)) (instruction (behind_offset e s)))

abbrev pub statement_of : Context → List ℕ → Statement
statement_of e line = statement_in e (trim (strip_comment line))
