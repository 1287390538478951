-- Decimal digits by one, two, four and eight. Assumes nothing.
use Rattle.std.proofs.Common.{◌≡◌, ℕ, ◌+◌, ◌/◌, ◌%◌, ◌^◌, ◌<◌, ◌≤◌, List, [], ◌∷◌, ◌++◌, refl, arith, lt-ltb}
use Rattle.spec_numbers.specs.Print.{digit, decimal}
use Rattle.spec_numbers.proofs.PrintLaws.{digits_small}
use Rattle.numbers.specs.Digits.{two_digits, four_digits, eight_digits}
use Rattle.numbers.proofs.DigitTurns.{Turn, bare_behind, twice, one_digit}

-- a decimal digit
decimal_digit : (d : ℕ) → d < 10 → digit 97 d ≡ 48 + d
unfolding digit
decimal_digit d h = rw (lt-ltb d 10 h)

-- the last digits of a number in decimal
abbrev Decimal : ℕ → ℕ → (ℕ → List ℕ) → Type 0
Decimal count unit back = Turn 10 97 20 count unit back

one : Decimal 1 10 (λ d. (48 + d) ∷ [])
one =
    let t = one_digit 10 97 18 (omega arith) in
    record {
      some = t.some;
      whole = λ n h l. rw (t.whole n h l, decimal_digit n h);
      behind = λ w n e l. let m : n % 10 < 10 = omega arith in rw (t.behind w n e l, decimal_digit (n % 10) m);
    }

two : Decimal 2 100 two_digits
two = twice 10 97 20 1 10 (omega arith) one

four : Decimal 4 10000 four_digits
four = twice 10 97 20 2 100 (omega arith) two

eight : Decimal 8 100000000 eight_digits
eight = twice 10 97 20 4 10000 (omega arith) four

-- a number that has more digits, behind its front
decimal_behind : {count unit : ℕ} {back : ℕ → List ℕ} → Decimal count unit back → (n : ℕ) → unit ≤ n → n < 2 ^ 64
    → decimal n ≡ decimal (n / unit) ++ back (n % unit)
unfolding decimal
decimal_behind t n h l = bare_behind 10 97 20 t n h (omega arith)

-- one digit
pub decimal_one : (n : ℕ) → n < 10 → decimal n ≡ (48 + n) ∷ []
unfolding decimal
decimal_one n h = rw (digits_small 10 97 19 n h, decimal_digit n h) refl

-- two digits, three, and four
pub decimal_two : (n : ℕ) → 10 ≤ n → n < 100 → decimal n ≡ two_digits n
decimal_two n h l = rw (decimal_behind one n h (omega arith), decimal_one (n / 10) (omega arith)) refl

pub decimal_three : (n : ℕ) → 100 ≤ n → n < 1000 → decimal n ≡ (48 + n / 100) ∷ two_digits (n % 100)
decimal_three n h l = rw (decimal_behind two n h (omega arith), decimal_one (n / 100) (omega arith)) refl

pub decimal_four : (n : ℕ) → 1000 ≤ n → n < 10000 → decimal n ≡ four_digits n
decimal_four n h l =
    rw (decimal_behind two n (omega arith) (omega arith), decimal_two (n / 100) (omega arith) (omega arith)) refl

-- the last four of more, and the last eight
pub decimal_last_four : (n : ℕ) → 10000 ≤ n → n < 2 ^ 64 → decimal n ≡ decimal (n / 10000) ++ four_digits (n % 10000)
decimal_last_four n h l = decimal_behind four n h l

pub decimal_last_eight : (n : ℕ) → 100000000 ≤ n → n < 2 ^ 64 → decimal n ≡ decimal (n / 100000000) ++ eight_digits (n % 100000000)
decimal_last_eight n h l = decimal_behind eight n h l
