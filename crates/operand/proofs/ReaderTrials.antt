-- Reads computed: of document 01's body, of a negative distance and number, and where the bytes end. Assumes nothing.
use Rattle.std.specs.Prelude.{Option}
use Rattle.std.proofs.Common.{◌≡◌, ℕ, List, [], ◌∷◌, Some, None, pos, negsuc, refl}
use Rattle.spec_numbers.specs.LittleEndian.{le}
use Rattle.spec_numbers.specs.TwosComplement.{signed}
use Rattle.operand.specs.declared.reader.Read.{Read}
use Rattle.operand.specs.Reader.{number_at, read_at}

-- a number of so many bytes that is its bits
abbrev bits_at : ℕ → List ℕ → ℕ → Option (Read ℕ)
bits_at width s at = read_at width (λ n. n) s at

-- "body=0001070106020100000401"
abbrev body : List ℕ
body = 0 ∷ 1 ∷ 7 ∷ 1 ∷ 6 ∷ 2 ∷ 1 ∷ 0 ∷ 0 ∷ 4 ∷ 1 ∷ []

-- LoadByte r1, the distance of Jmp, the string id of LoadText
pub register : bits_at 1 body 1 ≡ Some (record { value = 1; bits = 1; next = 2 })
unfolding le
register = refl

pub distance : read_at 1 (signed 8) body 4 ≡ Some (record { value = pos 6; bits = 6; next = 5 })
unfolding le
distance = refl

pub string_id : bits_at 2 body 7 ≡ Some (record { value = 0; bits = 0; next = 9 })
unfolding le
string_id = refl

-- little-endian, and signed
pub low_byte_first : bits_at 4 (1 ∷ 2 ∷ 3 ∷ 4 ∷ []) 0 ≡ Some (record { value = 67305985; bits = 67305985; next = 4 })
unfolding le
low_byte_first = refl

pub back_by_one : read_at 1 (signed 8) (1 ∷ 255 ∷ []) 1 ≡ Some (record { value = negsuc 0; bits = 255; next = 2 })
unfolding le
back_by_one = refl

pub minus_two : read_at 4 (signed 32) (254 ∷ 255 ∷ 255 ∷ 255 ∷ []) 0 ≡ Some (record { value = negsuc 1; bits = 4294967294; next = 4 })
unfolding le
minus_two = refl

-- the bytes of a double with its sign and lowest bit set, and one byte too few
pub double_bits : number_at (1 ∷ 0 ∷ 0 ∷ 0 ∷ 0 ∷ 0 ∷ 0 ∷ 128 ∷ []) 0 8 ≡ Some 9223372036854775809
unfolding le
double_bits = refl

pub cut_short : bits_at 2 body 10 ≡ None
unfolding le
cut_short = refl
