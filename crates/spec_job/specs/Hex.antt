-- Bytes in hex, up to the end of their line (document 01, 'Around the core'). Assumes nothing.
use Rattle.std.specs.Prelude.{List, [], ◌∷◌, ℕ, zero, suc, ◌+◌, ◌*◌, eqb, ltb, length, get_or}
use Rattle.lists.specs.Choice.{pick, both}
use Rattle.spec_numbers.specs.Parse.{digit_value}

-- the bytes and the place behind the line, or that the line is not of the form
pub data HexRead : Type 0 where
  hex : List ℕ → ℕ → HexRead
  no_hex : HexRead

unfoldable pub with_byte : ℕ → HexRead → HexRead
with_byte b (hex bs at) = hex (b ∷ bs) at
with_byte b no_hex = no_hex

-- two digits a byte, "of either case", then LF; at most f bytes. A place behind the text holds no digit
unfoldable pub hex_from : ℕ → List ℕ → ℕ → HexRead
hex_from zero s at = pick (eqb (get_or s at 0) 10) (hex [] (at + 1)) no_hex
hex_from (suc f) s at =
    let high = digit_value (get_or s at 0) in
    let low = digit_value (get_or s (at + 1) 0) in
    let rest = with_byte (16 * high + low) (hex_from f s (at + 2)) in
    pick (eqb (get_or s at 0) 10) (hex [] (at + 1)) (pick (both (ltb high 16) (ltb low 16)) rest no_hex)

-- a text of n bytes has no more than n bytes in hex
abbrev pub hex_at : List ℕ → ℕ → HexRead
hex_at s at = hex_from (length s) s at
