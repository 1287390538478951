-- One instruction as it is listed: format_instruction of disasm.rs. Assumes nothing.
use Rattle.std.specs.Prelude.{Bool, List, [], ◌++◌, ℕ, get_or}
use Rattle.lists.specs.Choice.{pick}
use Rattle.lists.specs.Text.{text}
use Rattle.spec_numbers.specs.Print.{hex_lower4}
use Rattle.spec_inputs.specs.Context.{Context, name_of}
use Rattle.spec_body.specs.Record.{offset_of, opcode_of, pairs_of}
use Rattle.spec_listing.specs.Operand.{operand_texts}

-- "`{:04x}`, two spaces"
unfoldable pub offset_text : Bool → ℕ → List ℕ
offset_text offsets at = pick offsets (hex_lower4 at ++ text "  ") []

-- "Lines are `{:04x}`, two spaces, name, operands": with offsets and texts shown or not
unfoldable pub instruction_text : Bool → Bool → Context → List ℕ → List ℕ
instruction_text offsets texts e r =
    offset_text offsets (offset_of r) ++ name_of e (opcode_of r) ++ operand_texts texts e.bytes e.ends (offset_of r) (text " ") (get_or e.types (opcode_of r) []) (pairs_of r)
