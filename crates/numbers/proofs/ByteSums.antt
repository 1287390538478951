-- The number of some bytes by the numbers of those in front and of those behind, for any number of bytes. Assumes nothing.
use Rattle.std.proofs.Common.{◌≡◌, ℕ, zero, suc, ◌+◌, ◌*◌, ◌/◌, ◌^◌, ◌<◌, ◌≤◌, List, [], ◌∷◌, ◌++◌, length, get_or, drop, sym, refl, mul_assoc, zero-add, arith, drop-cons, pow-add, shr-shr}
use native.Mathlib.Nat.{pow-succ', one-le-pow, div-eq_of_lt, add-mul-div_left}
use lib.Seq.{take-length}
use Rattle.lists.specs.Scan.{Bytes, part}
use Rattle.lists.proofs.Parts.{bytes_drop, bytes_take, part_length, part_add}
use Rattle.slices.specs.Words.{two_at, four_at}
use Rattle.spec_numbers.specs.LittleEndian.{le}
use Rattle.spec_numbers.proofs.ByteLaws.{le_bound}

-- bytes and more behind them
pub le_append : (a b : List ℕ) → le (a ++ b) ≡ le a + 256 ^ length a * le b
unfolding le
le_append [] b = omega arith
le_append (x ∷ a) b = rw (pow-succ' 256 (length a), mul_assoc 256 (256 ^ length a) (le b)) (omega (arith, le_append a b))

-- dividing takes bytes from the front
pub le_shift : (a b : List ℕ) → Bytes a → le (a ++ b) / 256 ^ length a ≡ le b
le_shift a b h =
    let p = one-le-pow (length a) 256 (omega arith) in
    let z = div-eq_of_lt (rw (take-length a) at (le_bound (length a) a h)) in
    rw (le_append a b, add-mul-div_left (le a) (le b) p, z) (zero-add (le b))

-- m bytes and n behind them
pub le_split : (s : List ℕ) (at m n : ℕ) → at + m ≤ length s → le (part s at (m + n)) ≡ le (part s at m) + 256 ^ m * le (part s (at + m) n)
le_split s at m n h = rw (part_add s at m n, le_append (part s at m) (part s (at + m) n), part_length s at m h)

-- one byte
pub le_one : (s : List ℕ) (at : ℕ) → at < length s → le (part s at 1) ≡ get_or s at 0
unfolding le
le_one s at h = rw (drop-cons s at 0 h) (omega arith)

-- two bytes, and four
le_two : (s : List ℕ) (at : ℕ) → at + 2 ≤ length s → le (part s at 2) ≡ two_at s at
le_two s at h = omega (arith, le_split s at 1 1 (omega arith), le_one s at (omega arith), le_one s (at + 1) (omega arith))

pub le_four : (s : List ℕ) (at : ℕ) → at + 4 ≤ length s → le (part s at 4) ≡ four_at s at
unfolding four_at
le_four s at h = omega (arith, le_split s at 2 2 (omega arith), le_two s at (omega arith), le_two s (at + 2) (omega arith))

-- dividing leaves the bytes behind
pub le_behind : (s : List ℕ) (at m n : ℕ) → Bytes s → at + m ≤ length s → le (part s at (m + n)) / 256 ^ m ≡ le (part s (at + m) n)
le_behind s at m n b h =
    let e = le_shift (part s at m) (part s (at + m) n) (bytes_take (drop at s) m (bytes_drop s at b)) in
    rw (part_add s at m n) (rw (part_length s at m h) at e)

-- m bytes are 8 * m bits
pub bytes_bits : (m : ℕ) → 256 ^ m ≡ 2 ^ (8 * m)
bytes_bits zero = refl
bytes_bits (suc m) =
    let e : 8 * suc m ≡ 8 + 8 * m = omega arith in
    rw (e, pow-add 2 8 (8 * m), pow-succ' 256 m, bytes_bits m)

-- and so does shifting in two steps
pub le_shifted : (s : List ℕ) (at m n half : ℕ) → Bytes s → at + m ≤ length s → half + half ≡ 8 * m → le (part s at (m + n)) / 2 ^ half / 2 ^ half ≡ le (part s (at + m) n)
le_shifted s at m n half b h e = rw (shr-shr (le (part s at (m + n))) half half, e, sym (bytes_bits m)) (le_behind s at m n b h)
