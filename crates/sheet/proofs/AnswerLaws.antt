-- From an answer back to what its definition gives. Assumes nothing.
use mathlib.Core.Path.{◌≡◌, refl, ap, sym, ◌∙◌}
use Prim.Native.Nat.{ℕ}
use mathlib.Core.Bool.{Bool, true, false, not}
use Rattle.std.specs.Prelude.{Option, Some, None, Result, Ok, Err}
use Rattle.std.specs.Result.{IsErrAnd}
use Rattle.std.specs.Option.{is_some, ok_or, IfSome, MatchOption}
use Rattle.lists.specs.Found.{Found}
use Rattle.lists.specs.Found.Found.{found, missing}
use Rattle.slices.specs.Answers.{found_of}
use Rattle.spec_sheet.specs.Sheet.{is_missing}
use Rattle.spec_sheet.specs.Scan.{Step}
use Rattle.spec_sheet.specs.Scan.Step.{next, off}
use Rattle.sheet.specs.declared.scan.Reading.{Reading}
use Rattle.sheet.specs.Answers.{step_of, place_of}

-- a reading that was made, and one that was not
pub was_next : (x : Step) {r : Reading} → step_of x ≡ Some r → x ≡ next r.value r.next
unfolding step_of
was_next (next w b) {r} e =
    let q : ◌≡◌ {A = Reading} (record { value = w; next = b }) r = cc e in
    ap (λ (t : Reading). next t.value t.next) q
was_next off e = cc e

pub was_off : (x : Step) → step_of x ≡ None → x ≡ off
unfolding step_of
was_off (next w b) e = cc e
was_off off e = refl

-- the same of a reading of which the place alone is answered
pub record Behind (x : Step) (a : ℕ) : Type 0 where
  pub value : ℕ
  pub is_next : x ≡ next value a

pub was_place : (x : Step) {a : ℕ} → place_of x ≡ Some a → Behind x a
unfolding place_of
was_place (next w b) {a} e = let q : b ≡ a = cc e in record { value = w; is_next = ap (next w) q }
was_place off e = cc e

pub was_no_place : (x : Step) → place_of x ≡ None → x ≡ off
unfolding place_of
was_no_place (next w b) e = cc e
was_no_place off e = refl

-- whether a name was found
pub name_told : (x : Found) (r : Option ℕ) (b : Bool) → r ≡ found_of x → is_some r ≡ b → not b ≡ is_missing x
unfolding is_missing
name_told (found k) r true e f = refl
name_told (found k) r false e f = let q : true ≡ false = rw e at f in cc q
name_told missing r true e f = let q : false ≡ true = rw e at f in cc q
name_told missing r false e f = refl

pub name_missing : (x : Found) → x ≡ missing → true ≡ is_missing x
unfolding is_missing
name_missing x e = rw e

-- what `ok_or` was given, from what it answered
pub or_value : {A E : Type 0} (o : Option A) (e : E) {v : A} {r : Result A E} → r ≡ ok_or o e → r ≡ Ok v → o ≡ Some v
or_value (Some x) e {v} {r} p q = let t : ◌≡◌ {A = Result _ _} (Ok x) (Ok v) = sym p ∙ q in cc t
or_value None e {v} {r} p q = let t : ◌≡◌ {A = Result _ _} (Err e) (Ok v) = sym p ∙ q in cc t

pub or_error : {A E : Type 0} (o : Option A) (e : E) {f : E} {r : Result A E} → r ≡ ok_or o e → r ≡ Err f → (o ≡ None) × (f ≡ e)
or_error (Some x) e {f} {r} p q = let t : ◌≡◌ {A = Result _ _} (Ok x) (Err f) = sym p ∙ q in cc t
or_error None e {f} {r} p q = let t : ◌≡◌ {A = Result _ _} (Err e) (Err f) = sym p ∙ q in (refl, cc t)

-- what `?` answers on an error
pub is_error : {A E : Type 0} (r : Result A E) {f : E} → IsErrAnd r (λ x. x ≡ f) → r ≡ Err f
is_error (Ok v) h = absurd h
is_error (Err x) h = ap Err h

-- a quick reading, and where it answers nothing the plain one
pub quick_first : (x : Step) (q r : Option Reading) {P : Type 0} → IfSome q (λ t. x ≡ next t.value t.next) → MatchOption q P (λ t. r ≡ Some t) → (P → r ≡ step_of x) → r ≡ step_of x
unfolding step_of
quick_first x (Some t) r i m f = m ∙ sym (ap step_of i)
quick_first x None r i m f = f m
