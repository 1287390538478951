-- Which doubles are whole, by their exponent. Assumes nothing.
use Rattle.std.proofs.Common.{◌≡◌, ℕ, ◌+◌, ◌-◌, ◌/◌, ◌^◌, ◌<◌, ◌≤◌, Bool, true, false, eqb, leb, None, sym, refl, arith, le-ltb, lt-ltb, eq-eqb, ne_eqb, le-leb}
use borrow.Author.Tests.{lt-leb}
use lib.Count.{count_trailing_zeros}
use Rattle.std.specs.Bool.{then_some}
use Rattle.lists.specs.Choice.{pick}
use Rattle.lists.proofs.Tests.{by_leb}
use Rattle.spec_numbers.specs.Parse.Parsed.{is, bad}
use Rattle.spec_numbers.specs.Double.{whole_at, scaled}
use Rattle.spec_numbers.proofs.ZeroLaws.{low_zero, low_not_zero}
use Rattle.numbers.specs.Answers.{number_of}

chosen : (b : Bool) (n : ℕ) → then_some b n ≡ number_of (pick b (is n) bad)
chosen true n = refl
chosen false n = refl

module _ (e m : ℕ) where
  pub whole_zero : e ≡ 0 → then_some (eqb m 0) 0 ≡ number_of (whole_at e m)
  unfolding whole_at
  whole_zero h = rw (eq-eqb e 0 h) (chosen (eqb m 0) 0)

  pub whole_most : e ≡ 1076 → then_some (eqb m 0) (2 ^ 53) ≡ number_of (whole_at e m)
  unfolding whole_at
  whole_most h = rw (ne_eqb e 0 (λ z. omega (arith, z)), eq-eqb e 1076 h) (chosen (eqb m 0) (2 ^ 53))

  -- a significand whose bits below the point are 0
  module _ (few : m < 2 ^ 52) (first : 1023 ≤ e) (last : e ≤ 1075) where
    shifted : pick (leb (1075 - e) (count_trailing_zeros 64 (2 ^ 52 + m))) (is ((2 ^ 52 + m) / 2 ^ (1075 - e))) bad ≡ scaled (2 ^ 52 + m) (1075 - e)
    unfolding scaled
    shifted =
        by_leb (1075 - e) (count_trailing_zeros 64 (2 ^ 52 + m))
        (λ l. rw (le-leb _ _ l, eq-eqb _ _ (low_zero 64 (1075 - e) (2 ^ 52 + m) l)))
        (λ l. rw (lt-leb _ _ l, ne_eqb _ _ (low_not_zero 64 (1075 - e) (2 ^ 52 + m) (omega arith) l)))

    pub whole_within : then_some (leb (1075 - e) (count_trailing_zeros 64 (2 ^ 52 + m))) ((2 ^ 52 + m) / 2 ^ (1075 - e)) ≡ number_of (whole_at e m)
    unfolding whole_at
    whole_within =
        rw (ne_eqb e 0 (λ z. omega (arith, z)), ne_eqb e 1076 (λ z. omega (arith, z)), le-ltb e 1023 first, le-ltb 1075 e last, sym shifted)
        (chosen (leb (1075 - e) (count_trailing_zeros 64 (2 ^ 52 + m))) ((2 ^ 52 + m) / 2 ^ (1075 - e)))

  pub not_whole : (e ≡ 0 → ⊥) → (e ≡ 1076 → ⊥) → (1023 ≤ e → e ≤ 1075 → ⊥) → None ≡ number_of (whole_at e m)
  unfolding whole_at
  not_whole z t w =
      by_leb 1023 e
      (λ l. rw (ne_eqb e 0 z, ne_eqb e 1076 t, le-ltb e 1023 l, lt-ltb 1075 e (by_leb e 1075 (λ n. absurd (w l n)) (λ n. n))))
      (λ l. rw (ne_eqb e 0 z, ne_eqb e 1076 t, lt-ltb e 1023 l))
