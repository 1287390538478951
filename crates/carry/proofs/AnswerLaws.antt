-- What an Option or a Result is that another says. Assumes nothing.
use mathlib.Core.Path.{◌≡◌, refl, ap}
use Rattle.std.specs.Prelude.{Option, None, Some, Result, Ok, Err}
use Rattle.std.specs.Result.{IsErrAnd}
use Prim.Native.Nat.{ℕ}
use Rattle.lists.specs.Found.{Found}
use Rattle.lists.specs.Found.Found.{found, missing}
use Rattle.slices.specs.Answers.{found_of}

-- what `?` answers on an error
pub is_error : {A E : Type 0} (r : Result A E) {f : E} → IsErrAnd r (λ x. x ≡ f) → r ≡ Err f
is_error (Ok v) h = absurd h
is_error (Err x) h = ap Err h

pub not_some : {A : Type 0} (o : Option A) → ((x : A) → o ≡ Some x → ⊥) → o ≡ None
not_some None n = refl
not_some (Some x) n = absurd (n x refl)

-- what a search answered, in the type of the definition
pub was_found : (x : Found) (k : ℕ) → Some k ≡ found_of x → x ≡ found k
was_found (found i) k e = ap found (let z : i ≡ k = cc e in z)
was_found missing k e = cc e

pub was_missing : (x : Found) → None ≡ found_of x → x ≡ missing
was_missing (found i) e = cc e
was_missing missing e = refl
