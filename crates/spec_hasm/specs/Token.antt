-- The value of an operand's token: parse_operand_token of parse.rs (document 01, 'Assembler'). Assumes nothing.
use Rattle.std.specs.Prelude.{Bool, false, List, ℕ, ◌-◌, ◌^◌, eqb, leb, length, get_or, take, drop}
use Rattle.lists.specs.Choice.{pick, both, either}
use Rattle.lists.specs.Found.{Found}
use Rattle.lists.specs.Found.Found.{found, missing}
use Rattle.answers.specs.declared.refusal.OperandFault.{OperandFault}
use Rattle.answers.specs.declared.refusal.OperandFault.TheVariants as fault
use Rattle.spec_numbers.specs.TwosComplement.{wrap_sub}
use Rattle.spec_numbers.specs.Parse.{Parsed, parse_u32, parse_hex, parse_i32}
use Rattle.spec_numbers.specs.Parse.Parsed.{is, bad}
use Rattle.spec_numbers.specs.Double.{read_double}
use Rattle.spec_sheet.specs.Types.{family_of, width_of, reg_family, uint_family, string_family, addr_family, imm32_family}
use Rattle.spec_strings.specs.Escape.{unescape}
use Rattle.spec_strings.specs.Table.{lookup}
use Rattle.spec_hasm.specs.Line.{has_hex_prefix}

-- the bits of a value, of which as many bytes are written as the type has, or what is wrong with the token
pub data Value : Type 0 where
  value : ℕ → Value
  refused : OperandFault → Value

-- a number that was read, or else a refusal
unfoldable pub number_or : OperandFault → Parsed → Value
number_or f (is n) = value n
number_or f bad = refused f

unfoldable pub found_or : OperandFault → Found → Value
found_or f (found n) = value n
found_or f missing = refused f

-- 6: `r` or `R` and a number
unfoldable pub register_value : List ℕ → Value
register_value t = pick (either (eqb (get_or t 0 0) 114) (eqb (get_or t 0 0) 82)) (number_or fault.Register (parse_u32 (drop 1 t))) (refused fault.Register)

-- 11
unfoldable pub unsigned_value : List ℕ → Value
unsigned_value t = number_or fault.Number (pick (has_hex_prefix t) (parse_hex (drop 2 t)) (parse_u32 t))

-- `unquote`: a quote at either end; "reading `\u00E9` as é" is a mistake
unfoldable pub is_quoted : List ℕ → Bool
is_quoted t = both (leb 2 (length t)) (eqb (get_or t (length t - 1) 0) 34)

abbrev pub unquoted : List ℕ → List ℕ
unquoted t = unescape false (drop 1 (take (length t - 1) t))

-- 9, 10, or a number: 11
unfoldable pub string_value : List ℕ → List ℕ → List ℕ → Value
string_value bytes ends t =
    let text = pick (is_quoted t) (found_or fault.Text (lookup (unquoted t) bytes ends)) (refused fault.Quotes) in
    pick (eqb (get_or t 0 0) 34) text (unsigned_value t)

-- "An `L` token that parses as u32 is that byte offset, whether or not such a label line stands anywhere; the label table
-- serves only `L` alone or digits past u32"
unfoldable pub offset_or : Found → Parsed → Value
offset_or label (is n) = value n
offset_or label bad = found_or fault.Address label

unfoldable pub target_in : (List ℕ → Found) → List ℕ → Value
target_in labels t = pick (eqb (get_or t 0 0) 76) (offset_or (labels t) (parse_u32 (drop 1 t))) (refused fault.Address)

-- 8: "distance outside -128 to 127 for Addr8"
unfoldable pub is_near : ℕ → Bool
is_near distance = either (leb distance 127) (leb (2 ^ 32 - 128) distance)

unfoldable pub distance_to : ℕ → ℕ → Value → Value
distance_to width offset (value target) =
    let distance = wrap_sub target offset in
    pick (either (eqb width 4) (is_near distance)) (value distance) (refused fault.Distance)
distance_to width offset (refused f) = refused f

-- a token for an operand of a type, in the instruction at `offset`
unfoldable pub token_value : List ℕ → List ℕ → (List ℕ → Found) → ℕ → ℕ → List ℕ → Value
token_value bytes ends labels offset code t =
    pick (eqb (family_of code) reg_family) (register_value t)
    (pick (eqb (family_of code) uint_family) (unsigned_value t)
    (pick (eqb (family_of code) string_family) (string_value bytes ends t)
    (pick (eqb (family_of code) addr_family) (distance_to (width_of code) offset (target_in labels t))
    (pick (eqb (family_of code) imm32_family) (number_or fault.Number (parse_i32 t)) (number_or fault.Double (read_double t))))))
