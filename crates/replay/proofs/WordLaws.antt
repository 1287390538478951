-- Laws of numbers of w little-endian bytes each. Assumes nothing.
use mathlib.Core.Path.{◌≡◌, refl, ap, ◌∙◌}
use mathlib.Core.List.{List, [], ◌∷◌, ◌++◌, append_assoc, append-nil}
use Prim.Native.Nat.{ℕ, zero, suc, ◌+◌, ◌-◌, ◌*◌, ◌/◌, ◌%◌, ◌<◌, ◌≤◌, min}
use native.Mathlib.Nat.{mul-suc, mul-zero}
use native.Mathlib.Numerals.{add-one}
use native.Mathlib.Omega.{arith}
use lib.ListN.{length, take, drop, get_or, set, drop_of_length-le}
use lib.Seq.{drop-cons, drop-drop, set_at, take_at, length-take-le}
use Rattle.lists.specs.Scan.{Bytes, part}
use Rattle.lists.proofs.Parts.{bytes_drop}
use Rattle.spec_numbers.specs.LittleEndian.{le, le_bytes}
use Rattle.spec_numbers.proofs.ByteLaws.{le_bound}
use Rattle.replay.specs.Words.{numbers_in, numbers_over, bytes_of}

-- n numbers are n
pub length_numbers : (w n : ℕ) (s : List ℕ) → length (numbers_in w n s) ≡ n
unfolding numbers_in
length_numbers w zero s = refl
length_numbers w (suc n) s = ap suc (length_numbers w n (drop w s))

-- one number more
pub numbers_more : (w n : ℕ) (s : List ℕ) → numbers_in w (n + 1) s ≡ numbers_in w n s ++ (le (part s (w * n) w) ∷ [])
unfolding numbers_in
numbers_more w zero s = rw mul-zero
numbers_more w (suc n) s =
    let e : w + w * n ≡ w * suc n = omega (arith, mul-suc w n) in
    let m : suc n + 1 ≡ suc (n + 1) = omega arith in
    rw (m, numbers_more w n (drop w s), drop-drop (w * n) w s, e)

-- before the first number is set
pub over_start : (w : ℕ) (s old : List ℕ) → old ≡ numbers_in w 0 s ++ drop 0 old
unfolding numbers_in
over_start w s old = refl

-- one is set
pub over_turn : (w : ℕ) (s old : List ℕ) (i at : ℕ) → at ≡ w * i → i < length old
    → set (numbers_in w i s ++ drop i old) i (le (part s at w)) ≡ numbers_in w (i + 1) s ++ drop (i + 1) old
over_turn w s old i at e h =
    rw (e, drop-cons old i 0 h, set_at (numbers_in w i s) (get_or old i 0) (drop (suc i) old) (le (part s (w * i) w)) i (length_numbers w i s), numbers_more w i s, append_assoc, add-one i)

-- so many are set as both have
pub over_end : (w : ℕ) (s old now : List ℕ) (i : ℕ) → i ≡ min (length old) (length s / w)
    → now ≡ numbers_in w i s ++ drop i old → now ≡ numbers_over w s old
unfolding numbers_over
over_end w s old now i e h = h ∙ rw e

-- the first number's bytes, and those behind them
pub bytes_next : (w : ℕ) (vs : List ℕ) (i : ℕ) → i < length vs → bytes_of w (drop i vs) ≡ le_bytes w (get_or vs i 0) ++ bytes_of w (drop (i + 1) vs)
unfolding bytes_of
bytes_next w vs i h = rw (add-one i, drop-cons vs i 0 h)

-- behind the last number there are none
pub bytes_end : (w : ℕ) (vs : List ℕ) (i : ℕ) → length vs ≤ i → bytes_of w (drop i vs) ≡ []
unfolding bytes_of
bytes_end w vs i h = rw (drop_of_length-le vs h)

-- four bytes make a number below 2^32, which the code's remainder leaves as it is
pub four_bytes : (s : List ℕ) (at : ℕ) → Bytes s → {r : ℕ} → r ≡ le (part s at 4) → (r % 4294967296 ≡ le (part s at 4)) × (r % 4294967296 ≤ 4294967295)
four_bytes s at b e =
    let h : le (part s at 4) < 4294967296 = le_bound 4 (drop at s) (bytes_drop s at b) in
    (omega (arith, e, h), omega arith)

-- all numbers are set where there are bytes for each
pub over_all : (w : ℕ) (s old : List ℕ) → length old ≤ length s / w → numbers_over w s old ≡ numbers_in w (length old) s
unfolding numbers_over
over_all w s old h =
    let m : min (length old) (length s / w) ≡ length old = omega arith in
    rw (m, drop_of_length-le old {i = length old} (omega arith), append-nil)

-- the numbers of the bytes, in front of those that stay
pub over_front : (w : ℕ) (s old : List ℕ) → length s / w ≤ length old → take (length s / w) (numbers_over w s old) ≡ numbers_in w (length s / w) s
unfolding numbers_over
over_front w s old h =
    let m : min (length old) (length s / w) ≡ length s / w = omega arith in
    rw m (take_at (numbers_in w (length s / w) s) (drop (length s / w) old) (length s / w) (length_numbers w (length s / w) s))

-- as many words as are lent of a space
pub front_length : {A : Type 0} (l : List A) (n : ℕ) → n ≤ length l → length (take (n - 0) l) ≡ n
front_length l n h = length-take-le (n - 0) l (omega arith) ∙ omega arith
