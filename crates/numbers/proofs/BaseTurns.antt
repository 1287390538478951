-- Digits of any base by one, two, four and eight. Assumes nothing.
use Rattle.std.proofs.Common.{◌≡◌, ℕ, zero, suc, ◌/◌, ◌%◌, ◌^◌, ◌<◌, ◌≤◌, List, [], ◌∷◌, ◌++◌, ap, ◌∙◌, arith, lt_of_le_of_lt, div-le_self, div-lt_iff_lt-mul}
use Rattle.spec_numbers.specs.Print.{digit, digits}
use Rattle.spec_numbers.proofs.PrintLaws.{digits_small}
use Rattle.numbers.specs.Digits.{square, two_of, four_of, eight_of}
use Rattle.numbers.proofs.DigitTurns.{Turn, bare_behind, twice, one_digit}

module _ (base letter : ℕ) (some : 0 < base) where
  one : (fuel : ℕ) → 2 ≤ fuel → Turn base letter fuel 1 base (λ d. digit letter d ∷ [])
  one zero h = absurd (omega arith)
  one (suc zero) h = absurd (omega arith)
  one (suc (suc k)) h = one_digit base letter k some

  pub one_of : (fuel n : ℕ) → 2 ≤ fuel → n < base → digits base letter fuel n ≡ digit letter n ∷ []
  one_of zero n h l = absurd (omega arith)
  one_of (suc k) n h l = digits_small base letter k n l

  module _ (fuel : ℕ) (h : 2 ≤ fuel) where
    two : Turn base letter fuel 2 (square base) (two_of base letter)
    two = twice base letter fuel 1 base (omega arith) (one fuel h)

    four : Turn base letter fuel 4 (square (square base)) (four_of base letter)
    four = twice base letter fuel 2 (square base) (omega arith) two

    eight : Turn base letter fuel 8 (square (square (square base))) (eight_of base letter)
    eight = twice base letter fuel 4 (square (square base)) (omega arith) four

    module _ (n : ℕ) (l : n < base ^ fuel) where
      pub both_of : base ≤ n → n < square base → digits base letter fuel n ≡ two_of base letter n
      both_of a b = bare_behind base letter fuel (one fuel h) n a l ∙ ap (λ (s : List ℕ). s ++ (digit letter (n % base) ∷ [])) (one_of fuel (n / base) h ((div-lt_iff_lt-mul some).1 b))

      pub last_two : square base ≤ n → digits base letter fuel n ≡ digits base letter fuel (n / square base) ++ two_of base letter (n % square base)
      last_two a = bare_behind base letter fuel two n a l

      pub last_four : square (square base) ≤ n → digits base letter fuel n ≡ digits base letter fuel (n / square (square base)) ++ four_of base letter (n % square (square base))
      last_four a = bare_behind base letter fuel four n a l

      pub last_eight : square (square (square base)) ≤ n → digits base letter fuel n ≡ digits base letter fuel (n / square (square (square base))) ++ eight_of base letter (n % square (square (square base)))
      last_eight a = bare_behind base letter fuel eight n a l

      -- what stands in front is no longer
      pub front_within : (unit : ℕ) → n / unit < base ^ fuel
      front_within unit = lt_of_le_of_lt (div-le_self n unit) l
