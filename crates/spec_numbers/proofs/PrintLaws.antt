-- Laws of printed numbers, in any base. Assumes nothing.
use mathlib.Core.Path.{◌≡◌, refl, ap, sym, ◌∙◌}
use mathlib.Core.Bool.{Bool, true}
use Prim.Native.Nat.{ℕ, zero, suc, ◌+◌, ◌-◌, ◌/◌, ◌%◌, ◌^◌, ◌≤◌, ◌<◌}
use native.Mathlib.Nat.{pow-suc, pow-zero, one-mul, div-lt_iff_lt-mul, le-div_iff_mul-le, mod-lt, lt_of_lt_of_le, pow-le-pow_right, div-eq_of_lt, mod-eq_of_lt}
use native.Mathlib.Omega.{arith}
use mathlib.Core.List.{List, [], ◌∷◌, ◌++◌, append_assoc}
use lib.ListN.{length, get_or, replicate, length-append, length-replicate, get_or-append, replicate-append-replicate}
use lib.Dec.{leb}
use borrow.Author.Tests.{le-leb, lt-ltb, le-ltb}
use Rattle.lists.specs.Choice.{both}
use Rattle.lists.specs.Scan.{all}
use Rattle.lists.proofs.Tests.{by_leb, both_yes, both_left}
use Rattle.lists.proofs.Scans.{all_append}
use Rattle.spec_numbers.specs.Print.{digit, digits, padded, decimal, signed_decimal, hex_lower, hex_upper, hex_lower4}
use Rattle.spec_numbers.specs.TwosComplement.{signed}
use lib.IntN.{ℤ, pos, negsuc}

module _ (base letter : ℕ) where
  -- a number below the base is one digit
  pub digits_small : (k n : ℕ) → n < base → digits base letter (suc k) n ≡ digit letter n ∷ []
  unfolding digits
  digits_small k n h = rw (lt-ltb n base h, digits)

  -- a larger one is the digits of its quotient and one digit more
  pub digits_more : (k n : ℕ) → base ≤ n → digits base letter (suc k) n ≡ digits base letter k (n / base) ++ (digit letter (n % base) ∷ [])
  unfolding digits
  digits_more k n h = rw (le-ltb n base h, digits)

-- a number of one digit is below the base
pub one_power : (base n : ℕ) → n < base ^ 1 → n < base
one_power base n h = rw (pow-suc, pow-zero, one-mul) at h

-- the quotient has one digit less
pub quotient_bound : (base k n : ℕ) → 0 < base → n < base ^ suc k → n / base < base ^ k
quotient_bound base k n p h = (div-lt_iff_lt-mul p).1 (rw pow-suc at h)

all_one : (p : ℕ → Bool) (b : ℕ) → p b ≡ true → all p (b ∷ []) ≡ true
unfolding all
all_one p b e = both_yes (p b) true e refl

-- what holds of all holds of the first
pub all_first : (p : ℕ → Bool) (s : List ℕ) → all p s ≡ true → 0 < length s → p (get_or s 0 0) ≡ true
unfolding all
all_first p [] e h = absurd (omega arith)
all_first p (b ∷ s) e h = both_left (p b) (all p s) e

all_replicate : (p : ℕ → Bool) (b : ℕ) → p b ≡ true → (n : ℕ) → all p (replicate n b) ≡ true
unfolding all
all_replicate p b e zero = refl
all_replicate p b e (suc n) = both_yes (p b) (all p (replicate n b)) e (all_replicate p b e n)

digit_none : (letter : ℕ) → digit letter 0 ≡ 48
unfolding digit
digit_none letter = refl

-- the digit that is written 0 is worth 0
pub digit_zero : (letter d : ℕ) → 48 < letter → digit letter d ≡ 48 → d ≡ 0
unfolding digit
digit_zero letter d b e =
    by_leb 10 d
    (λ m. absurd (let q : letter + (d - 10) ≡ 48 = rw (le-ltb d 10 m) at e in omega arith))
    (λ m. let q : 48 + d ≡ 48 = rw (lt-ltb d 10 m) at e in omega arith)

module _ (base letter : ℕ) (some : 0 < base) where
  -- fuel that is not used up does not matter
  pub digits_fuel : (j k n : ℕ) → n < base ^ suc j → n < base ^ suc k → digits base letter (suc j) n ≡ digits base letter (suc k) n
  digits_fuel zero k n g h = digits_small base letter 0 n (one_power base n g) ∙ sym (digits_small base letter k n (one_power base n g))
  digits_fuel (suc j) zero n g h = digits_small base letter (suc j) n (one_power base n h) ∙ sym (digits_small base letter 0 n (one_power base n h))
  digits_fuel (suc j) (suc k) n g h =
      let q = digits_fuel j k (n / base) (quotient_bound base (suc j) n some g) (quotient_bound base (suc k) n some h) in
      by_leb base n
      (λ m. rw (digits_more base letter (suc j) n m, digits_more base letter (suc k) n m, q))
      (λ m. digits_small base letter (suc j) n m ∙ sym (digits_small base letter (suc k) n m))

  -- the last digit, where the fuel lasts
  pub digits_last : (k n : ℕ) → base ≤ n → n < base ^ suc (suc k)
      → digits base letter (suc (suc k)) n ≡ digits base letter (suc (suc k)) (n / base) ++ (digit letter (n % base) ∷ [])
  digits_last k n m h =
      let q : n / base < base ^ suc k = quotient_bound base (suc k) n some h in
      digits_more base letter (suc k) n m
      ∙ rw (digits_fuel k (suc k) (n / base) q (lt_of_lt_of_le q (pow-le-pow_right some (omega arith))))

  -- printed text is not empty
  pub digits_some : (k n : ℕ) → 0 < length (digits base letter (suc k) n)
  digits_some k n =
      by_leb base n
      (λ m. rw (digits_more base letter k n m, length-append) (omega arith))
      (λ m. rw (digits_small base letter k n m) (omega arith))

  -- there are no more digits than fuel
  pub digits_length : (k n : ℕ) → length (digits base letter k n) ≤ k
  digits_length zero n = unfold digits in omega arith
  digits_length (suc k) n =
      by_leb base n
      (λ m. rw (digits_more base letter k n m, length-append) (omega (arith, digits_length k (n / base))))
      (λ m. rw (digits_small base letter k n m) (omega arith))

  -- a number below base ^ suc k has at most suc k digits, however much fuel there is
  pub digits_few : (j k n : ℕ) → n < base ^ suc j → n < base ^ suc k → length (digits base letter (suc j) n) ≤ suc k
  digits_few j k n g h = rw (digits_fuel j k n g h) (digits_length (suc k) n)

  -- what holds of every digit holds of all that is printed
  pub digits_all : (p : ℕ → Bool) → ((d : ℕ) → d < base → p (digit letter d) ≡ true) → (k n : ℕ) → all p (digits base letter k n) ≡ true
  digits_all p f zero n = unfold digits all in refl
  digits_all p f (suc k) n =
      by_leb base n
      (λ m. rw (digits_more base letter k n m) (all_append p (digits base letter k (n / base)) (digit letter (n % base) ∷ []) (digits_all p f k (n / base)) (all_one p _ (f (n % base) (mod-lt n some)))))
      (λ m. rw (digits_small base letter k n m) (all_one p _ (f n m)))

  -- no 0 stands in front, but for the number 0
  pub digits_first : 48 < letter → (k n : ℕ) → n < base ^ suc k → get_or (digits base letter (suc k) n) 0 0 ≡ 48 → n ≡ 0
  digits_first b zero n h e = digit_zero letter n b (rw (digits_small base letter 0 n (one_power base n h)) at e)
  digits_first b (suc k) n h e =
      by_leb base n
      (λ m.
      let q : get_or (digits base letter (suc k) (n / base)) 0 0 ≡ 48 =
      sym (get_or-append (digits base letter (suc k) (n / base)) (digit letter (n % base) ∷ []) 0 0 (digits_some k (n / base)))
      ∙ rw (digits_more base letter (suc k) n m) at e in
      let g : 1 ≤ n / base = (le-div_iff_mul-le some).1 (rw one-mul m) in
      absurd (omega (arith, digits_first b k (n / base) (quotient_bound base (suc k) n some h) q)))
      (λ m. digit_zero letter n b (rw (digits_small base letter (suc k) n m) at e))

module _ (w : ℕ) where
  -- zeros in front make a short text exactly w long
  pub padded_length : (s : List ℕ) → length s ≤ w → length (padded w s) ≡ w
  unfolding padded
  padded_length s h = rw (length-append, length-replicate) (omega arith)

  -- a text that is long enough is left as it is
  pub padded_long : (s : List ℕ) → w ≤ length s → padded w s ≡ s
  unfolding padded
  padded_long s h = let e : w - length s ≡ 0 = omega arith in rw e

  -- zeros in front make no text shorter
  pub padded_at_least : (s : List ℕ) → length s ≤ length (padded w s)
  unfolding padded
  padded_at_least s = rw (length-append, length-replicate) (omega arith)

  -- what holds of 0 and of a text holds of the text with zeros in front
  pub padded_all : (p : ℕ → Bool) (s : List ℕ) → p 48 ≡ true → all p s ≡ true → all p (padded w s) ≡ true
  unfolding padded
  padded_all p s z e = all_append p (replicate (w - length s) 48) s (all_replicate p 48 z (w - length s)) e

-- a text with zeros in front, from its last digit: a number of several digits, one digit behind zeros, and one digit alone
module _ (base letter : ℕ) (some : 0 < base) (w : ℕ) where
  padded_last : (k n : ℕ) → base ≤ n → n < base ^ suc (suc k)
      → padded w (digits base letter (suc (suc k)) n) ≡ padded (w - 1) (digits base letter (suc (suc k)) (n / base)) ++ (digit letter (n % base) ∷ [])
  unfolding padded
  padded_last k n m h =
      let d = digits base letter (suc (suc k)) (n / base) in
      let l : w - length (d ++ (digit letter (n % base) ∷ [])) ≡ w - 1 - length d = omega (arith, length-append d (digit letter (n % base) ∷ [])) in
      rw (digits_last base letter some k n m h, l, append_assoc)

  padded_zeros : (k n : ℕ) → n < base → 1 < w
      → padded w (digits base letter (suc k) n) ≡ padded (w - 1) (digits base letter (suc k) (n / base)) ++ (digit letter (n % base) ∷ [])
  unfolding padded
  padded_zeros k n m h =
      let e : w - 1 ≡ w - 1 - 1 + 1 = omega arith in
      rw (div-eq_of_lt m, mod-eq_of_lt m, digits_small base letter k n m, digits_small base letter k 0 some, digit_none letter, replicate-append-replicate {A = ℕ} (w - 1 - 1) 1 48)
      (ap (λ (l : ℕ). replicate l 48 ++ (digit letter n ∷ [])) e)

  -- one digit is all
  pub padded_one : (k n : ℕ) → n < base → w ≤ 1 → padded w (digits base letter (suc k) n) ≡ digit letter n ∷ []
  padded_one k n m h = rw (digits_small base letter k n m) (padded_long w (digit letter n ∷ []) h)

  -- more stands in front of the last digit
  pub padded_more : (k n : ℕ) → (n < base → w ≤ 1 → ⊥) → n < base ^ suc (suc k)
      → padded w (digits base letter (suc (suc k)) n) ≡ padded (w - 1) (digits base letter (suc (suc k)) (n / base)) ++ (digit letter (n % base) ∷ [])
  padded_more k n e h =
      by_leb base n (λ m. padded_last k n m h)
      (λ m. by_leb w 1 (λ l. absurd (e m l)) (λ l. padded_zeros (suc k) n m l))

-- a text with no zeros asked for
pub unpadded : (s : List ℕ) → padded 0 s ≡ s
unpadded s = padded_long 0 s (omega arith)

-- a signed number that is not negative is its decimal
pub signed_decimal_lem : (b : ℕ) → b < 2 ^ 31 → signed_decimal (signed 32 b) ≡ decimal b
unfolding signed_decimal
signed_decimal_lem b h = rw (lt-ltb b (2 ^ 31) h)

-- a negative number is `-` and the decimal of what is missing to 2 ^ 32
pub minus_decimal : (b : ℕ) → 2 ^ 31 ≤ b → b < 2 ^ 32 → signed_decimal (signed 32 b) ≡ 45 ∷ decimal (2 ^ 32 - b)
unfolding signed_decimal
minus_decimal b h l = let e : suc (2 ^ 32 - suc b) ≡ 2 ^ 32 - b = omega arith in rw (le-ltb b (2 ^ 31) h, e)

-- a printed number is not empty
pub decimal_some : (n : ℕ) → 0 < length (decimal n)
unfolding decimal
decimal_some n = digits_some 10 97 (omega arith) 19 n

-- a number has at most 20 decimal digits
pub decimal_length : (n : ℕ) → length (decimal n) ≤ 20
unfolding decimal
decimal_length n = digits_length 10 97 (omega arith) 20 n

-- a number below 16 ^ suc k has at most suc k hex digits
pub hex_upper_few : (k n : ℕ) → n < 2 ^ 64 → n < 16 ^ suc k → length (hex_upper n) ≤ suc k
unfolding hex_upper
hex_upper_few k n h l = digits_few 16 65 (omega arith) 15 k n (omega arith) l

-- in lower case too
pub hex_lower_few : (k n : ℕ) → n < 2 ^ 64 → n < 16 ^ suc k → length (hex_lower n) ≤ suc k
unfolding hex_lower
hex_lower_few k n h l = digits_few 16 97 (omega arith) 15 k n (omega arith) l

-- an offset below 65536 has exactly 4 digits
pub hex_lower4_length : (n : ℕ) → n < 65536 → length (hex_lower4 n) ≡ 4
unfolding hex_lower4
hex_lower4_length n h = padded_length 4 (hex_lower n) (hex_lower_few 3 n (omega arith) (omega arith))

-- what holds of the characters 0 to 9 holds of all decimal text
pub decimal_every : (p : ℕ → Bool) → ((b : ℕ) → 48 ≤ b → b ≤ 57 → p b ≡ true) → (n : ℕ) → all p (decimal n) ≡ true
unfolding decimal digit
decimal_every p f n = digits_all 10 97 (omega arith) p (λ d h. rw (lt-ltb d 10 h) (f (48 + d) (omega arith) (omega arith))) 20 n

-- so every character is one of 0 to 9
pub decimal_all : (n : ℕ) → all (λ b. both (leb 48 b) (leb b 57)) (decimal n) ≡ true
decimal_all n = decimal_every (λ b. both (leb 48 b) (leb b 57)) (λ b l h. both_yes (leb 48 b) (leb b 57) (le-leb 48 b l) (le-leb b 57 h)) n

-- and of all signed text, where it holds of `-` too
pub signed_every : (p : ℕ → Bool) → ((b : ℕ) → 48 ≤ b → b ≤ 57 → p b ≡ true) → p 45 ≡ true → (z : ℤ) → all p (signed_decimal z) ≡ true
unfolding signed_decimal all
signed_every p f m (pos n) = decimal_every p f n
signed_every p f m (negsuc n) = both_yes (p 45) (all p (decimal (suc n))) m (decimal_every p f (suc n))
