-- How the hash of a text steps, by four bytes. Assumes nothing.
use mathlib.Core.Path.{◌≡◌, refl, ap, ◌∙◌}
use mathlib.Core.List.{List}
use Prim.Native.Nat.{ℕ, suc, ◌+◌, ◌-◌, ◌*◌, ◌/◌, ◌%◌, ◌≤◌, ◌<◌}
use native.Mathlib.Nat.{lt_of_lt_of_le, pow-le-pow_right, mul-le-mul_right, suc-mul}
use native.Mathlib.Omega.{arith}
use lib.ListN.{length, take, drop}
use lib.Seq.{drop-drop}
use borrow.Author.Tests.{lt-ltb, le-ltb}
use Rattle.lists.specs.Scan.{Bytes, part}
use Rattle.spec_numbers.specs.LittleEndian.{le}
use Rattle.spec_numbers.proofs.ByteLaws.{le_bound}
use Rattle.hash_index.specs.Hash.{hash_with, hash_from, hash_long, hash_of}

-- how many times four bytes stand in front of the last ones, from an index on
abbrev pub words_from : List ℕ → ℕ → ℕ
words_from s i = (length s - i - 1) / 4

-- the clause of four bytes more
from_more : (h : ℕ) (s : List ℕ) (n : ℕ) → hash_from h s (suc n) ≡ hash_from (hash_with h (le (take 4 s))) (drop 4 s) n
unfolding hash_from
from_more h s n = refl

-- the hash from an index on, as a loop steps
pub hash_go : (h : ℕ) (s : List ℕ) (i : ℕ) → 4 < length s - i
    → hash_from h (drop i s) (words_from s i) ≡ hash_from (hash_with h (le (part s i 4))) (drop (i + 4) s) (words_from s (i + 4))
hash_go h s i l =
    let n = words_from s (i + 4) in
    let e : words_from s i ≡ suc n = omega arith in
    rw e (from_more h (drop i s) n ∙ ap (λ (t : List ℕ). hash_from (hash_with h (le (part s i 4))) t n) (drop-drop 4 i s))

pub hash_end : (h : ℕ) (s : List ℕ) (i : ℕ) → length s - i ≤ 4 → hash_from h (drop i s) (words_from s i) ≡ h
unfolding hash_from
hash_end h s i l = let e : words_from s i ≡ 0 = omega arith in rw e

-- fewer than four bytes, and four or more
pub hash_short : (s : List ℕ) → length s < 4 → hash_of s ≡ hash_with (length s) (le s) % 65536
unfolding hash_of
hash_short s l = rw (lt-ltb (length s) 4 l)

pub hash_four : (s : List ℕ) → 4 ≤ length s → hash_of s ≡ hash_long s % 65536
unfolding hash_of
hash_four s l = rw (le-ltb (length s) 4 l)

-- the number of so few bytes
pub short_number : (n : ℕ) (s : List ℕ) → Bytes s → n < 4 → le (take n s) < 4294967296
short_number n s b l = lt_of_lt_of_le (le_bound n s b) (pow-le-pow_right {n = 256} (omega arith) {j = 4} (omega arith))

-- a hash that is scaled to m buckets is one of them
pub scaled : (h m : ℕ) → h < 65536 → h * m + m ≤ 65536 * m
scaled h m l = let k : suc h ≤ 65536 = omega arith in rw (suc-mul h m) at (mul-le-mul_right m k)

pub scaled_below : (h m : ℕ) → h < 65536 → 0 < m → h * m / 65536 < m
scaled_below h m l p = omega (arith, scaled h m l)
