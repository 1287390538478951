-- A listed operand is read back, one law a family. Assumes nothing.
use mathlib.Core.Path.{◌≡◌, refl}
use mathlib.Core.Bool.{Bool, true, false}
use mathlib.Core.List.{List}
use Prim.Native.Nat.{ℕ, ◌^◌, ◌<◌}
use native.Mathlib.Omega.{arith}
use lib.Dec.{eqb, ltb}
use lib.ListN.{length, get_or, drop}
use Rattle.lists.specs.Choice.{both, within}
use Rattle.lists.specs.Scan.{all, opens}
use Rattle.lists.specs.Text.{text}
use Rattle.lists.proofs.Scans.{opens_not}
use Rattle.spec_numbers.specs.Print.{decimal}
use Rattle.spec_numbers.specs.Parse.{parse_u32, parse_i32}
use Rattle.spec_numbers.specs.Parse.Parsed.{is}
use Rattle.spec_numbers.specs.Double.{read_double}
use Rattle.spec_numbers.proofs.PrintLaws.{decimal_all}
use Rattle.spec_numbers.proofs.ReadBackLaws.{parse_decimal, parse_signed}
use Rattle.spec_numbers.proofs.DoubleLaws.{read_printed}
use Rattle.spec_sheet.specs.Types.{family_of}
use Rattle.spec_strings.specs.Table.{text_of}
use Rattle.spec_strings.specs.Plain.{plain}
use Rattle.spec_listing.specs.Operand.{target_of, operand_text}
use Rattle.spec_listing.proofs.OperandShape.{register_text, number_text, shown_text, target_text, signed_text, double_text}
use Rattle.spec_listing.proofs.TokenBytes.{token_no_quote, token_first, decimal_token}
use Rattle.spec_listing.proofs.PieceBytes.{QuotedText, plain_quoted}

-- a token of one letter and a number
pub record Lettered (letter n : ℕ) (piece : List ℕ) : Type 0 where
  pub letter_is : get_or piece 0 0 ≡ letter
  pub number_is : parse_u32 (drop 1 piece) ≡ is n

-- a token that is read as a decimal number: no quote opens it, nor a mark of the hex form
pub record Numbered (n : ℕ) (piece : List ℕ) : Type 0 where
  pub no_quote : eqb (get_or piece 0 0) 34 ≡ false
  pub no_mark : opens (text "0x") piece ≡ false
  pub no_upper_mark : opens (text "0X") piece ≡ false
  pub number_is : parse_u32 piece ≡ is n

-- printed numbers are
pub decimal_numbered : (n : ℕ) → n < 2 ^ 32 → Numbered n (decimal n)
unfolding all text
decimal_numbered n h = record {
  no_quote = token_no_quote (get_or (decimal n) 0 0) (token_first (decimal n) (decimal_token n));
  no_mark = opens_not (within 48 57) (text "0x") (decimal n) (decimal_all n) refl;
  no_upper_mark = opens_not (within 48 57) (text "0X") (decimal n) (decimal_all n) refl;
  number_is = parse_decimal n h;
}

module _ (texts : Bool) (bytes ends : List ℕ) (at code bits : ℕ) where
  -- Reg8 and Reg32
  pub operand_register : family_of code ≡ 1 → bits < 2 ^ 32 → Lettered 114 bits (operand_text texts bytes ends at code bits)
  operand_register f h = rw (register_text texts bytes ends at code bits f) record { letter_is = refl; number_is = parse_decimal bits h }

  -- UInt8, UInt16 and UInt32
  pub operand_number : family_of code ≡ 2 → bits < 2 ^ 32 → Numbered bits (operand_text texts bytes ends at code bits)
  operand_number f h = rw (number_text texts bytes ends at code bits f) (decimal_numbered bits h)

  -- the same by a plain text: what stands between the quotes says it
  pub operand_text_lem : family_of code ≡ 3 → both texts (ltb bits (length ends)) ≡ true → plain (text_of bytes ends bits) ≡ true
      → QuotedText (text_of bytes ends bits) (operand_text texts bytes ends at code bits)
  operand_text_lem f n h = rw (shown_text texts bytes ends at code bits f n) (plain_quoted (text_of bytes ends bits) h)

  -- Addr8 and Addr32, whose target's sign bit is clear
  pub operand_address : family_of code ≡ 4 → target_of at code bits < 2 ^ 31 → Lettered 76 (target_of at code bits) (operand_text texts bytes ends at code bits)
  operand_address f h =
      rw (target_text texts bytes ends at code bits f h) record { letter_is = refl; number_is = parse_decimal (target_of at code bits) (omega arith) }

  -- Imm32
  pub operand_signed : family_of code ≡ 5 → bits < 2 ^ 32 → parse_i32 (operand_text texts bytes ends at code bits) ≡ is bits
  operand_signed f h = rw (signed_text texts bytes ends at code bits f) (parse_signed bits h)

  -- Double
  pub operand_double : family_of code ≡ 6 → bits < 2 ^ 64 → read_double (operand_text texts bytes ends at code bits) ≡ is bits
  operand_double f h = rw (double_text texts bytes ends at code bits f) (read_printed bits h)
