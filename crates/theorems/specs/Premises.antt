-- Which bodies round-trip through their listing, over their records. Assumes nothing.
use Rattle.std.specs.Prelude.{Bool, true, false, not, List, [], ◌∷◌, ℕ, eqb, length, get_or, drop}
use Rattle.lists.specs.Choice.{pick, both}
use Rattle.lists.specs.Scan.{same}
use Rattle.lists.specs.Text as characters
use Rattle.lists.specs.Found.{Found}
use Rattle.lists.specs.Found.Found.{found, missing}
use Rattle.spec_sheet.specs.Types.{family_of, string_family, addr_family}
use Rattle.spec_sheet.specs.Sheet.{SheetRead, sheet_of, type_rows, largest}
use Rattle.spec_sheet.specs.Sheet.SheetRead.{sheet, malformed}
use Rattle.spec_strings.specs.Table.{lookup}
use Rattle.spec_strings.specs.Plain.{plain}
use Rattle.spec_body.specs.Decode.{Decoded, decode_body}
use Rattle.spec_body.specs.Decode.Decoded.{decoded, not_decoded}
use Rattle.spec_inputs.specs.Context.{Context, name_of, has_text, text_at}
use Rattle.spec_listing.specs.Options.{Options}
use Rattle.spec_listing.specs.Operand.{target_of}
use Rattle.spec_body.specs.Record.{offset_of, opcode_of, pairs_of}
use Rattle.spec_body.specs.Starts.{places_of}
use Rattle.spec_listing.specs.Labels.{among}
use Rattle.spec_inputs.specs.Inputs.{context_of}

-- "default shows offsets, labels and texts"
abbrev pub default : Options
default = record { show_offsets = true; show_labels = true; resolve_strings = true }

-- a search answers this id
unfoldable pub answers : ℕ → Found → Bool
answers id (found k) = eqb k id
answers id missing = false

-- a string id round-trips: it has a text, the text is plain, and "Lookup gives the first id whose text is equal" gives the id
unfoldable pub good_string : Context → ℕ → Bool
good_string e id = both (has_text e id) (both (plain (text_at e id)) (answers id (lookup (text_at e id) e.bytes e.ends)))

-- an operand of the instruction at `at` round-trips: a string id as above, an Addr where "offset plus distance is an instruction's
-- start or the body's length", which are the places; any other does
unfoldable pub good_operand : Context → List ℕ → ℕ → ℕ → ℕ → Bool
good_operand e places at code bits =
    pick (eqb (family_of code) string_family) (good_string e bits) (pick (eqb (family_of code) addr_family) (among (target_of at code bits) places) true)

unfoldable pub good_operands : Context → List ℕ → ℕ → List ℕ → List ℕ → Bool
good_operands e places at [] pairs = true
good_operands e places at (code ∷ codes) pairs =
    both (good_operand e places at code (get_or pairs 1 0)) (good_operands e places at codes (drop 2 pairs))

-- an instruction round-trips: it is not "<invalid>", and its operands do
unfoldable pub good_record : Context → List ℕ → List ℕ → Bool
good_record e places r =
    both (not (same (name_of e (opcode_of r)) (characters.text "<invalid>"))) (good_operands e places (offset_of r) (get_or e.types (opcode_of r) []) (pairs_of r))

unfoldable pub good_records : Context → List ℕ → List (List ℕ) → Bool
good_records e places [] = true
good_records e places (r ∷ rs) = both (good_record e places r) (good_records e places rs)

-- a body with these records round-trips
unfoldable pub round_trips : Context → List ℕ → List (List ℕ) → Bool
round_trips e body rs = good_records e (places_of rs (length body)) rs

-- the same of a body as it is given, under a sheet's text and a string table: one that is refused does not round-trip
unfoldable pub decoded_back : Context → List ℕ → Decoded → Bool
decoded_back e body (decoded rs) = round_trips e body rs
decoded_back e body (not_decoded x) = false

unfoldable pub sheet_back : SheetRead → List ℕ → List ℕ → List ℕ → List ℕ → Bool
sheet_back (sheet sh at) text bytes ends body =
    decoded_back (context_of text sh.opcodes bytes ends) body (decode_body (type_rows sh.opcodes) (largest sh.opcodes) body)
sheet_back (malformed line) text bytes ends body = false

unfoldable pub body_round_trips : List ℕ → List ℕ → List ℕ → List ℕ → Bool
body_round_trips text bytes ends body = sheet_back (sheet_of text) text bytes ends body
