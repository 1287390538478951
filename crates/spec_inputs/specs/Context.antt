-- What a body or a text is read under: a sheet with its tables, and a string table. Assumes nothing.
use Rattle.std.specs.Prelude.{Bool, List, [], ℕ, eqb, ltb, length, get_or}
use Rattle.lists.specs.Choice.{pick}
use Rattle.lists.specs.Text.{text}
use Rattle.spec_sheet.specs.Line.{jump_mark, name_size, name_in}
use Rattle.spec_strings.specs.Table.{text_of}

-- the sheet's text, its rows by opcode (type codes; operand count, jump mark, start and length of the name), and the table.
-- The Rust's `parse_hasm_with_context` takes the same under this name.
pub record Context : Type 0 where
  pub sheet : List ℕ
  pub types : List (List ℕ)
  pub infos : List (List ℕ)
  pub bytes : List ℕ
  pub ends : List ℕ

-- the context whose parts are given one by one
abbrev pub context_from : List ℕ → List (List ℕ) → List (List ℕ) → List ℕ → List ℕ → Context
context_from sheet types infos bytes ends = record { sheet = sheet; types = types; infos = infos; bytes = bytes; ends = ends }

-- the name of an opcode: a length of 0 marks a gap, which is "<invalid>"
unfoldable pub name_of : Context → ℕ → List ℕ
name_of e opcode =
    let row = get_or e.infos opcode [] in
    pick (eqb (name_size row) 0) (text "<invalid>") (name_in e.sheet row)

-- whether an opcode is a jump
unfoldable pub is_jump : Context → ℕ → Bool
is_jump e opcode = eqb (jump_mark (get_or e.infos opcode [])) 1

-- `string_at`: whether an id has a text
abbrev pub has_text : Context → ℕ → Bool
has_text e id = ltb id (length e.ends)

abbrev pub text_at : Context → ℕ → List ℕ
text_at e id = text_of e.bytes e.ends id
