-- Little-endian bytes and numbers determine each other, for any number of bytes. Assumes nothing.
use mathlib.Core.Path.{◌≡◌, refl, ap}
use mathlib.Core.List.{List, [], ◌∷◌}
use Prim.Native.Nat.{ℕ, zero, suc, ◌+◌, ◌-◌, ◌*◌, ◌/◌, ◌%◌, ◌^◌, ◌≤◌, ◌<◌}
use native.Mathlib.Nat.{pow-suc, one-le-pow, lt_of_lt_of_le, pow-le-pow_right}
use native.Mathlib.Omega.{arith}
use lib.ListN.{length, take, get_or}
use lib.Seq.{drop-cons}
use Rattle.lists.specs.Scan.{Bytes, part}
use Rattle.spec_numbers.specs.LittleEndian.{le, le_bytes}

-- the bytes of a number make the number
pub le_le_bytes : (w n : ℕ) → n < 256 ^ w → le (le_bytes w n) ≡ n
unfolding le le_bytes
le_le_bytes zero n h = omega arith
le_le_bytes (suc w) n h =
    let q : n / 256 < 256 ^ w = omega (arith, pow-suc 256 w) in
    omega (arith, le_le_bytes w (n / 256) q)

-- the number of bytes has these bytes
pub le_bytes_le : (bs : List ℕ) → Bytes bs → le_bytes (length bs) (le bs) ≡ bs
unfolding le le_bytes
le_bytes_le [] h = refl
le_bytes_le (b ∷ bs) h =
    let a : (b + 256 * le bs) % 256 ≡ b = omega (arith, h 0) in
    let d : (b + 256 * le bs) / 256 ≡ le bs = omega (arith, h 0) in
    rw (a, d, le_bytes_le bs (λ i. h (suc i)))

-- w bytes are w
pub length_le_bytes : (w n : ℕ) → length (le_bytes w n) ≡ w
unfolding le_bytes
length_le_bytes zero n = refl
length_le_bytes (suc w) n = ap suc (length_le_bytes w (n / 256))

-- each of them is a byte
pub le_bytes_bytes : (w n : ℕ) → Bytes (le_bytes w n)
unfolding le_bytes
le_bytes_bytes zero n i = omega arith
le_bytes_bytes (suc w) n zero = omega arith
le_bytes_bytes (suc w) n (suc i) = le_bytes_bytes w (n / 256) i

-- n bytes make a number below 256 ^ n
pub le_bound : (n : ℕ) (s : List ℕ) → Bytes s → le (take n s) < 256 ^ n
unfolding le
le_bound zero s h = omega arith
le_bound (suc n) [] h = one-le-pow (suc n) 256 (omega arith)
le_bound (suc n) (b ∷ bs) h = omega (arith, h 0, le_bound n bs (λ i. h (suc i)), pow-suc 256 n)

-- seven bytes or fewer leave room for one more in 64 bits
pub le_room : (n : ℕ) (s : List ℕ) → Bytes s → n ≤ 7 → le (take n s) < 256 ^ 7
le_room n s h l = lt_of_lt_of_le (le_bound n s h) (pow-le-pow_right {n = 256} (omega arith) l)

-- the number of the bytes from j on, by the byte at j and the number of those behind it
pub le_step : (s : List ℕ) (at n j k : ℕ) → k ≡ j + 1 → k ≤ n → at + n ≤ length s
    → le (part s (at + j) (n - j)) ≡ get_or s (at + j) 0 + 256 * le (part s (at + k) (n - k))
unfolding le
le_step s at n j k e h l =
    let m : n - j ≡ suc (n - k) = omega arith in
    let a : at + k ≡ suc (at + j) = omega arith in
    let b : at + j < length s = omega arith in
    rw (m, a, drop-cons s (at + j) 0 b)

-- the first byte of a number, and those behind it
pub le_bytes_step : (w n : ℕ) → 0 < w → le_bytes w n ≡ n % 256 ∷ le_bytes (w - 1) (n / 256)
unfolding le_bytes
le_bytes_step zero n h = absurd (omega arith)
le_bytes_step (suc w) n h = let e : suc w - 1 ≡ w = omega arith in rw e
