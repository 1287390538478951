-- Results with one output: when they are short, how they are reported, and what is left. Assumes nothing.
use mathlib.Core.Path.{◌≡◌, refl, ap, sym, ◌∙◌}
use mathlib.Core.Bool.{Bool, true, false}
use mathlib.Core.List.{List, [], ◌∷◌}
use Prim.Native.Nat.{ℕ, ◌<◌, ◌≤◌}
use native.Mathlib.Omega.{arith}
use lib.ListN.{length}
use lib.Dec.{ltb}
use borrow.Author.Tests.{lt-ltb, le-ltb, ltb-false}
use Rattle.lists.specs.Choice.{pick, either}
use Rattle.answers.specs.Report.{Report, shortage, success, zeros, written}
use Rattle.answers.specs.Refusals.{refusal_report}
use Rattle.answers.specs.Outcome.{Outcome, Result, produced, measured, sizes, needed, lent, exceeds, is_short, space_of, report, zeros_each, written_each, outputs_after, Ended}
use Rattle.answers.specs.Outcome.Outcome.{result, refused_with}
use Rattle.lists.proofs.Tests.{true_not_false}
use Rattle.answers.specs.declared.refusal.Refusal.{Refusal}
use Rattle.answers.specs.declared.refusal.Refusal.TheVariants.{TooLarge}
use Rattle.answers.proofs.NumberLaws.{number_some, no_length, same_report}
use Rattle.answers.specs.Numbers.{numbers_of, report_in}
use Rattle.answers.specs.declared.report.Numbers.{Numbers}

either_true : (a : Bool) → either a true ≡ true
either_true true = refl
either_true false = refl

-- one figure of each
pub enough : (n room : ℕ) → n ≤ room → exceeds (n ∷ []) (room ∷ []) ≡ false
unfolding exceeds
enough n room h = rw (le-ltb room n h)

pub too_few : (n room : ℕ) → room < n → exceeds (n ∷ []) (room ∷ []) ≡ true
unfolding exceeds
too_few n room h = rw (lt-ltb room n h)

-- an outcome that is a refusal
pub refused_end : (x : Outcome) (f : Refusal) (out entries after : List ℕ) (r : Report) → x ≡ refused_with f → r ≡ refusal_report f → after ≡ zeros out → Ended x out entries after r
unfolding report outputs_after zeros_each
refused_end x f out entries after r e l z = record { answer_is = l ∙ sym (rw e); output_is = ap (λ (s : List ℕ). s ∷ []) z ∙ sym (rw e) }

module _ (n : ℕ) (t need out room : List ℕ) where
  abbrev whole : Result
  whole = record { length = n; outputs = t ∷ []; entries = need }

  fits : length t ≤ length out → exceeds need room ≡ false → is_short (needed whole) (lent (out ∷ []) room) ≡ false
  unfolding is_short sizes exceeds
  fits h e = rw (le-ltb (length out) (length t) h, e)

  small : length out < length t → is_short (needed whole) (lent (out ∷ []) room) ≡ true
  unfolding is_short sizes exceeds
  small h = rw (lt-ltb (length out) (length t) h)

  few : exceeds need room ≡ true → is_short (needed whole) (lent (out ∷ []) room) ≡ true
  unfolding is_short
  few e = rw e (either_true (exceeds (sizes (t ∷ [])) (sizes (out ∷ []))))

  -- 19
  short_end : is_short (needed whole) (lent (out ∷ []) room) ≡ true → (after : List ℕ) → after ≡ zeros out → Ended (produced n t need) out room after shortage
  unfolding report outputs_after zeros_each
  short_end e after z = record { answer_is = sym (rw e); output_is = ap (λ (s : List ℕ). s ∷ []) z ∙ sym (rw e) }

  pub small_end : length out < length t → (after : List ℕ) → after ≡ zeros out → Ended (produced n t need) out room after shortage
  small_end h = short_end (small h)

  pub few_end : exceeds need room ≡ true → (after : List ℕ) → after ≡ zeros out → Ended (produced n t need) out room after shortage
  few_end e = short_end (few e)

  -- the result
  pub result_end : length t ≤ length out → exceeds need room ≡ false → (after : List ℕ) → after ≡ written t out → Ended (produced n t need) out room after (success n)
  unfolding report outputs_after written_each
  result_end h e after w = record { answer_is = sym (rw (fits h e)); output_is = ap (λ (s : List ℕ). s ∷ []) w ∙ sym (rw (fits h e)) }

-- an outcome with one output whose length counts it, or a refusal
pub data Sound (x : Outcome) : Type 0 where
  whole_of_lem : (t need : List ℕ) → x ≡ produced (length t) t need → Sound x
  refusal_of : (f : Refusal) → x ≡ refused_with f → Sound x

pub measured_sound : (limit : ℕ) (need t : List ℕ) → Sound (measured limit need t)
unfolding measured
measured_sound limit need t = by_case (ltb limit (length t))
  where
    by_case : (b : Bool) → Sound (pick b (refused_with TooLarge) (produced (length t) t need))
    by_case true = refusal_of TooLarge refl
    by_case false = whole_of_lem t need refl

-- how an outcome ended: refused, short, or whole
pub data HowEnded (x : Outcome) (out room after : List ℕ) (r : Report) : Type 0 where
  was_refused : (f : Refusal) → x ≡ refused_with f → r ≡ refusal_report f → HowEnded x out room after r
  was_short : (t need : List ℕ) → x ≡ produced (length t) t need → is_short (needed (whole (length t) t need [] [])) (lent (out ∷ []) room) ≡ true → r ≡ shortage → HowEnded x out room after r
  was_whole : (t need : List ℕ) → x ≡ produced (length t) t need → is_short (needed (whole (length t) t need [] [])) (lent (out ∷ []) room) ≡ false → r ≡ success (length t)
      → after ≡ written t out → length t ≤ length out → HowEnded x out room after r

fits_output : (n : ℕ) (t need out room : List ℕ) → is_short (needed (whole n t need [] [])) (lent (out ∷ []) room) ≡ false → length t ≤ length out
unfolding is_short sizes exceeds
fits_output n t need out room e = by_case (ltb (length out) (length t)) refl
  where
    by_case : (b : Bool) → ltb (length out) (length t) ≡ b → length t ≤ length out
    by_case true q = absurd (true_not_false _ (sym (rw q at e)) refl)
    by_case false q = ltb-false (length out) (length t) q

pub how_ended : (x : Outcome) (out room after : List ℕ) (r : Report) → Sound x → Ended x out room after r → HowEnded x out room after r
unfolding report outputs_after written_each
how_ended x out room after r (refusal_of f q) e = was_refused f q (e.answer_is ∙ rw q refl)
how_ended x out room after r (whole_of_lem t need q) e = by_case (is_short (needed (whole (length t) t need [] [])) (lent (out ∷ []) room)) refl
  where
    by_case : (b : Bool) → is_short (needed (whole (length t) t need [] [])) (lent (out ∷ []) room) ≡ b → HowEnded x out room after r
    by_case true h = was_short t need q h (e.answer_is ∙ rw (q, h) refl)
    by_case false h =
        let l : after ∷ [] ≡ written t out ∷ [] = e.output_is ∙ rw (q, h) refl in
        was_whole t need q h (e.answer_is ∙ rw (q, h) refl) (cc l) (fits_output (length t) t need out room h)

-- the length that is answered is within the output
pub length_within : (x : Outcome) (out room after : List ℕ) (r : Report) → HowEnded x out room after r → r.length ≤ length out
length_within x out room after r (was_refused f q e) = omega (arith, ap (λ (p : Report). p.length) e, no_length f)
length_within x out room after r (was_short t need q h e) = omega (arith, ap (λ (p : Report). p.length) e)
length_within x out room after r (was_whole t need q h e w l) = omega (arith, ap (λ (p : Report). p.length) e)

-- with the space that it needs a result is reported and written
pub with_space : (x : Outcome) (n : ℕ) (t need out room : List ℕ) → x ≡ produced n t need → is_short (space_of x) (lent (out ∷ []) room) ≡ false → Ended x out room (written t out) (success n)
unfolding space_of report outputs_after written_each
with_space x n t need out room e h =
    let short : is_short (needed (whole n t need [] [])) (lent (out ∷ []) room) ≡ false = rw e at h in
    rw e (record { answer_is = sym (rw short); output_is = sym (rw short) })

-- what ends with a success is a result, and stands in the output
pub record Succeeded (x : Outcome) (out after : List ℕ) (n : ℕ) : Type 0 where
  pub of : Result
  pub is_result : x ≡ result of
  pub counts : of.length ≡ n
  pub left : after ∷ [] ≡ written_each of.outputs (out ∷ [])

pub succeeded : (x : Outcome) (out room after : List ℕ) (n : ℕ) → Ended x out room after (success n) → Succeeded x out after n
unfolding report outputs_after
succeeded (refused_with f) out room after n e = absurd (let z : 0 ≡ (refusal_report f).number = ap (λ (p : Report). p.number) e.answer_is in omega (arith, number_some f))
succeeded (result r) out room after n e = by_case (is_short (needed r) (lent (out ∷ []) room)) refl
  where
    by_case : (b : Bool) → is_short (needed r) (lent (out ∷ []) room) ≡ b → Succeeded (result r) out after n
    by_case true q =
        let w : success n ≡ shortage = e.answer_is ∙ rw q refl in
        absurd (let z : 0 ≡ 19 = ap (λ (p : Report). p.number) w in omega (arith, z))
    by_case false q =
        let w : success n ≡ success r.length = e.answer_is ∙ rw q refl in
        let l : after ∷ [] ≡ written_each r.outputs (out ∷ []) = e.output_is ∙ rw q refl in
        record { of = r; is_result = refl; counts = sym (ap (λ (p : Report). p.length) w); left = l }

-- a refusal is no result
pub not_refused : {P : Type 0} {x : Refusal} {r : Result} → refused_with x ≡ result r → P
not_refused e = absurd (let z : ◌≡◌ {A = ℕ} 0 1 = cc e in omega arith)

-- equal results are equal in all parts
pub record Same (n m : ℕ) (t u es fs : List ℕ) : Type 0 where
  pub length_is : n ≡ m
  pub output_is : t ≡ u
  pub entries_are : es ≡ fs

pub same_result : {n m : ℕ} {t u es fs : List ℕ} → produced n t es ≡ produced m u fs → Same n m t u es fs
same_result {n} {m} {t} {u} {es} {fs} e =
    let q : whole n t es [] [] ≡ whole m u fs [] [] = cc e in
    let o : t ∷ [] ≡ u ∷ [] = ap (λ (r : Result). r.outputs) q in
    record { length_is = ap (λ (r : Result). r.length) q; output_is = cc o; entries_are = ap (λ (r : Result). r.entries) q }

-- an operation that ended, by the numbers of its answer
pub ended_numbers : {x : Outcome} {out room after : List ℕ} {answer : Report} {n : Numbers} → n ≡ numbers_of answer → Ended x out room after answer → Ended x out room after (report_in n)
ended_numbers q e = record { answer_is = same_report q ∙ e.answer_is; output_is = e.output_is }
