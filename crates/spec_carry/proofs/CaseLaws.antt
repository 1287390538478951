-- A list of cases refuses exactly where one holds, with the first that does. Assumes nothing.
use mathlib.Core.Path.{◌≡◌, refl, sym, ◌∙◌}
use mathlib.Core.Bool.{true, false}
use mathlib.Core.List.{List, [], ◌∷◌, ◌++◌}
use Rattle.lists.proofs.Tests.{by_test}
use Rattle.answers.specs.Outcome.{Outcome, Result}
use Rattle.answers.specs.Outcome.Outcome.{result, refused_with}
use Rattle.answers.specs.declared.refusal.Refusal.{Refusal}
use Rattle.answers.proofs.OutcomeLaws.{not_refused}
use Rattle.spec_inputs.proofs.UnderLaws.{unless_refused}
use Rattle.spec_carry.specs.Cases.{Case, unless_case}

-- no case holds
pub data Passed : List Case → Type 0 where
  none : Passed []
  one : {c : Case} {cs : List Case} → c.holds ≡ false → Passed cs → Passed (c ∷ cs)

-- the first that holds
pub data First : List Case → Case → Type 0 where
  here : {c : Case} {cs : List Case} → c.holds ≡ true → First (c ∷ cs) c
  next : {c d : Case} {cs : List Case} → c.holds ≡ false → First cs d → First (c ∷ cs) d

pub first_refuses : {cs : List Case} {c : Case} (rest : Outcome) → First cs c → unless_case cs rest ≡ refused_with c.refusal
unfolding unless_case
first_refuses rest (here e) = rw e
first_refuses rest (next e f) = rw e (first_refuses rest f)

pub passed_goes_on : {cs : List Case} (rest : Outcome) → Passed cs → unless_case cs rest ≡ rest
unfolding unless_case
passed_goes_on rest none = refl
passed_goes_on rest (one e p) = rw e (passed_goes_on rest p)

-- a result says that no case holds
pub result_passed : (cs : List Case) (rest : Outcome) (r : Result) → unless_case cs rest ≡ result r → Passed cs
unfolding unless_case
result_passed [] rest r e = none
result_passed (c ∷ cs) rest r e =
    by_test c.holds
    (λ h. not_refused (rw h at e))
    (λ h. one h (result_passed cs rest r (rw h at e)))

-- parts of a list
pub passed_left : (cs ds : List Case) → Passed (cs ++ ds) → Passed cs
passed_left [] ds p = none
passed_left (c ∷ cs) ds (one e p) = one e (passed_left cs ds p)

pub passed_right : (cs ds : List Case) → Passed (cs ++ ds) → Passed ds
passed_right [] ds p = p
passed_right (c ∷ cs) ds (one e p) = passed_right cs ds p

pub passed_head : {c : Case} {cs : List Case} → Passed (c ∷ cs) → c.holds ≡ false
passed_head (one e p) = e

pub passed_tail : {c : Case} {cs : List Case} → Passed (c ∷ cs) → Passed cs
passed_tail (one e p) = p

-- one or the other
pub first_or_none : {P : Type 0} (cs : List Case) → ((c : Case) → First cs c → P) → (Passed cs → P) → P
first_or_none [] f g = g none
first_or_none (c ∷ cs) f g =
    by_test c.holds (λ e. f c (here e)) (λ e. first_or_none cs (λ d h. f d (next e h)) (λ p. g (one e p)))

-- as a loop goes: cases that were passed are behind it, and the first that holds ends it
pub unless_passed : (cs ds : List Case) (rest : Outcome) → Passed cs → unless_case (cs ++ ds) rest ≡ unless_case ds rest
unfolding unless_case
unless_passed [] ds rest none = refl
unless_passed (c ∷ cs) ds rest (one e p) = rw e (unless_passed cs ds rest p)

pub unless_first : {cs : List Case} {c : Case} (ds : List Case) (rest : Outcome) → First cs c → unless_case (cs ++ ds) rest ≡ refused_with c.refusal
unfolding unless_case
unless_first ds rest (here e) = rw e
unless_first ds rest (next e f) = rw e (unless_first ds rest f)

-- the first case that holds has this refusal
pub record RefusedBy (cs : List Case) (x : Refusal) : Type 0 where
  pub of : Case
  pub is_first : First cs of
  pub refuses : of.refusal ≡ x

same_refusal : {x y : Refusal} → refused_with x ≡ refused_with y → x ≡ y
same_refusal e = cc e

-- an outcome that a list of cases decides: it is refused where a case holds, with the first that does, and nowhere else; where
-- none holds it is the result, and nowhere else
pub record Decided (cs : List Case) (r : Result) (x : Outcome) : Type 0 where
  pub first_is_refused : (c : Case) → First cs c → x ≡ refused_with c.refusal
  pub refused_is_first : (f : Refusal) → x ≡ refused_with f → RefusedBy cs f
  pub passed_is_result : Passed cs → x ≡ result r
  pub result_is_passed : (s : Result) → x ≡ result s → Passed cs

pub decided : (cs : List Case) (r : Result) → Decided cs r (unless_case cs (result r))
decided cs r =
    record {
      first_is_refused = λ c h. first_refuses (result r) h;
      refused_is_first = λ f e. first_or_none cs
          (λ c h. record { of = c; is_first = h; refuses = same_refusal (sym (first_refuses (result r) h) ∙ e) })
          (λ p. not_refused (sym e ∙ passed_goes_on (result r) p));
      passed_is_result = λ p. passed_goes_on (result r) p;
      result_is_passed = λ s e. result_passed cs (result r) s e;
    }

-- what holds of every refusal, and of what follows, holds of a list of cases
pub under_cases : (P : Outcome → Type 0) → ((f : Refusal) → P (refused_with f)) → (cs : List Case) {x : Outcome} → P x → P (unless_case cs x)
unfolding unless_case
under_cases P refusals [] p = p
under_cases P refusals (c ∷ cs) p = unless_refused P refusals c.holds c.refusal (under_cases P refusals cs p)
