-- How an operation ends that wrote a result. Assumes nothing.
use mathlib.Core.Path.{◌≡◌, refl, ap, sym, ◌∙◌}
use mathlib.Core.List.{List, [], ◌∷◌, ◌++◌}
use Prim.Native.Nat.{ℕ, ◌+◌, ◌<◌, ◌≤◌}
use native.Mathlib.Omega.{arith}
use native.Mathlib.Nat.{zero-add}
use lib.ListN.{length, take, drop, replicate}
use borrow.Author.Tests.{lt-ltb, le-ltb}
use Rattle.lists.specs.Write.{Put}
use Rattle.lists.proofs.Tests.{by_leb}
use Rattle.lists.proofs.Writes.{put_fits, kept_length}
use Rattle.answers.specs.Report.{zeros, written}
use Rattle.answers.specs.Outcome.{measured, produced, Ended}
use Rattle.answers.proofs.OutcomeLaws.{refused_end, small_end, few_end, result_end, enough, too_few}
use Rattle.answers.specs.Answers.{answer_report}
use Rattle.answers.specs.declared.failure.Failure.{Failure}
use Rattle.answers.specs.declared.failure.Failure.TheVariants.{Refused, Short}
use Rattle.answers.specs.declared.refusal.Refusal.TheVariants.{TooLarge}
use Rattle.operation.specs.Ends.{measured_of, left_by}
use Rattle.std.specs.Prelude.{Result, Ok, Err}

-- what measuring answers, case by case
module _ (k limit needed lent room : ℕ) where
  pub is_large : limit < k → measured_of k limit needed lent room ≡ Err (Refused TooLarge)
  unfolding measured_of
  is_large h = rw (lt-ltb limit k h) refl

  module _ (h : k ≤ limit) where
    pub is_few : lent < needed → measured_of k limit needed lent room ≡ Err Short
    unfolding measured_of
    is_few f = rw (le-ltb limit k h, lt-ltb lent needed f) refl

    module _ (f : needed ≤ lent) where
      pub is_small : room < k → measured_of k limit needed lent room ≡ Err Short
      unfolding measured_of
      is_small l = rw (le-ltb limit k h, le-ltb lent needed f, lt-ltb room k l) refl

      pub is_fit : k ≤ room → measured_of k limit needed lent room ≡ Ok k
      unfolding measured_of
      is_fit l = rw (le-ltb limit k h, le-ltb lent needed f, le-ltb room k l) refl

-- zeros for as many as there were
pub zeros_of : (now before after : List ℕ) → length now ≡ length before → after ≡ zeros now → after ≡ zeros before
zeros_of now before after h e = e ∙ ap (λ (n : ℕ). replicate n 0) h

front : (t before : List ℕ) → written t before ≡ take 0 before ++ t ++ drop (0 + length t) before
front t before = rw (zero-add (length t)) refl

module _ (limit : ℕ) (small : limit ≤ 1048576) (t before now : List ℕ) (k needed lent : ℕ) (w : Put before 0 t now k) where
  Measures : Result ℕ Failure → Type 0
  Measures r = (after : List ℕ) → after ≡ left_by r now → Ended (measured limit (needed ∷ []) t) before (lent ∷ []) after (answer_report r)

  too_long : limit < k → Measures (Err (Refused TooLarge))
  unfolding Measures measured
  too_long h after z =
      let g : limit < length t = omega (arith, w.next) in
      refused_end _ TooLarge before _ after _ (rw (lt-ltb limit (length t) g)) refl (zeros_of now before after (kept_length w) z)

  module _ (h : k ≤ limit) where
    size : k ≡ length t
    size = omega (arith, w.next)

    is_result : measured limit (needed ∷ []) t ≡ produced (length t) t (needed ∷ [])
    unfolding measured
    is_result = let g : length t ≤ limit = omega (arith, size) in rw (le-ltb limit (length t) g)

    few_entries : lent < needed → Measures (Err Short)
    unfolding Measures
    few_entries l after z = rw is_result (few_end (length t) t _ before _ (too_few needed lent l) after (zeros_of now before after (kept_length w) z))

    short : length now < k → Measures (Err Short)
    unfolding Measures
    short l after z =
        let g : length before < length t = omega (arith, size, kept_length w) in
        rw is_result (small_end (length t) t _ before _ g after (zeros_of now before after (kept_length w) z))

    done : needed ≤ lent → k ≤ length now → Measures (Ok k)
    unfolding Measures
    done f l after e =
        let g : length t ≤ length before = omega (arith, size, kept_length w) in
        let fits : 0 + length t ≤ length before = omega arith in
        let q = result_end (length t) t _ before _ g (enough needed lent f) after (e ∙ w.bytes ∙ put_fits before 0 t fits ∙ sym (front t before)) in
        rw (is_result, size) q

  -- a result that was written and measured ends the operation
  pub measured_end : (r : Result ℕ Failure) (after : List ℕ) → r ≡ measured_of k limit needed lent (length now) → after ≡ left_by r now
      → Ended (measured limit (needed ∷ []) t) before (lent ∷ []) after (answer_report r)
  unfolding Measures
  measured_end r after e z =
      by_leb k limit
      (λ h. by_leb needed lent
      (λ f. by_leb k (length now)
      (λ l. let q = e ∙ (is_fit k limit needed lent (length now) h f l) in rw q (done h f l after (rw q at z)))
      (λ l. let q = e ∙ (is_small k limit needed lent (length now) h f l) in rw q (short h l after (rw q at z))))
      (λ f. let q = e ∙ (is_few k limit needed lent (length now) h f) in rw q (few_entries h f after (rw q at z))))
      (λ h. let q = e ∙ (is_large k limit needed lent (length now) h) in rw q (too_long h after (rw q at z)))
