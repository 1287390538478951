-- The figures of an outcome's own space are exact. Assumes nothing.
use mathlib.Core.Path.{◌≡◌, refl, ap}
use mathlib.Core.Bool.{Bool, true, false}
use mathlib.Core.List.{List, [], ◌∷◌}
use Prim.Native.Nat.{ℕ, ◌*◌, ◌/◌, ◌<◌, ◌≤◌}
use native.Mathlib.Omega.{arith}
use lib.ListN.{length}
use Rattle.answers.specs.Report.{Report, shortage, success}
use Rattle.answers.specs.Outcome.{Outcome, Space, Result, produced, measured, sizes, needed, exceeds, is_short, space_of, report}
use Rattle.answers.specs.Outcome.Outcome.{result, refused_with}
use Rattle.answers.specs.Space.{OutputUnit, need_in, lent_for, no_need, space_report, Lowered, SameRefusal, Exact}
use Rattle.answers.specs.Space.OutputUnit.{in_bytes, in_records}
use Rattle.answers.specs.Space.Lowered.{fewer_bytes, fewer_records, fewer_labels}
use Rattle.answers.specs.declared.refusal.Refusal.{Refusal}
use Rattle.answers.specs.declared.refusal.Refusal.TheVariants.{TooLarge}
use Rattle.answers.specs.declared.space.Need.{Need}
use Rattle.lists.specs.Choice.{pick}
use lib.Dec.{ltb}
use borrow.Author.Tests.{lt-ltb, le-ltb}
use Rattle.answers.proofs.NumberLaws.{not_short}

-- an outcome with one output, of bytes with a figure of entries or of records without, or a refusal
pub data Shaped : OutputUnit → Outcome → Type 0 where
  of_bytes : (len : ℕ) (t : List ℕ) (n : ℕ) → Shaped in_bytes (produced len t (n ∷ []))
  of_records : (len : ℕ) (t : List ℕ) (k : ℕ) → length t ≡ 20 * k → Shaped in_records (produced len t [])
  of_refusal : (u : OutputUnit) (f : Refusal) → Shaped u (refused_with f)

pub measured_shaped : (limit n : ℕ) (t : List ℕ) → Shaped in_bytes (measured limit (n ∷ []) t)
unfolding measured
measured_shaped limit n t = by_case (ltb limit (length t))
  where
    by_case : (b : Bool) → Shaped in_bytes (pick b (refused_with TooLarge) (produced (length t) t (n ∷ [])))
    by_case true = of_refusal in_bytes TooLarge
    by_case false = of_bytes (length t) t n

-- a result by whether it is short
reported : (r : Result) (room : Space) (b : Bool) → is_short (needed r) room ≡ b → report (result r) room ≡ pick b shortage (success r.length)
unfolding report
reported r room b e = rw e refl

-- one output and one figure of entries, both lent
module _ (k n a b : ℕ) where
  abbrev need : Space
  need = record { outputs = k ∷ []; entries = n ∷ [] }

  abbrev room : Space
  room = record { outputs = a ∷ []; entries = b ∷ [] }

  fits : k ≤ a → n ≤ b → is_short need room ≡ false
  unfolding is_short exceeds
  fits h g = rw (le-ltb a k h, le-ltb b n g) refl

  small : a < k → is_short need room ≡ true
  unfolding is_short exceeds
  small h = rw (lt-ltb a k h) refl

  few : k ≤ a → b < n → is_short need room ≡ true
  unfolding is_short exceeds
  few h g = rw (le-ltb a k h, lt-ltb b n g) refl

-- and one output alone
module _ (k a b : ℕ) where
  abbrev need₁ : Space
  need₁ = record { outputs = k ∷ []; entries = [] }

  fits₁ : k ≤ a → is_short need₁ (room 0 0 a b) ≡ false
  unfolding is_short exceeds
  fits₁ h = rw (le-ltb a k h) refl

  small₁ : a < k → is_short need₁ (room 0 0 a b) ≡ true
  unfolding is_short exceeds
  small₁ h = rw (lt-ltb a k h) refl

not_nineteen : {n : ℕ} {r : Report} → r ≡ success n → r.number ≡ 19 → ⊥
not_nineteen {n} {r} e q = let z : r.number ≡ 0 = ap (λ (p : Report). p.number) e in omega (arith, z, q)

-- any refusal but 19 is the same, and so is success
same_as : (u : OutputUnit) (x : Outcome) (room : Space) → ((report x room).number ≡ 19 → ⊥) → SameRefusal (space_report u x) (report x room)
unfolding space_report report
same_as u (refused_with f) room h = (refl, refl, refl)
same_as u (result r) room h = by_case (is_short (needed r) room) refl
  where
    by_case : (b : Bool) → is_short (needed r) room ≡ b → SameRefusal (space_report u (result r)) (report (result r) room)
    by_case true e = absurd (h (rw e refl))
    by_case false e = rw e (refl, refl, refl)

-- "with it no 19 occurs, and with any one figure above 0 lowered by one 19 occurs. Any other refusal comes back the same."
pub exact : {u : OutputUnit} {x : Outcome} → Shaped u x → Exact u x
unfolding space_report space_of need_in lent_for sizes report
exact (of_refusal u f) = record { enough = never; none_less = nothing_lower; same = same_as u (refused_with f) }
  where
    never : (report (refused_with f) (lent_for u no_need)).number ≡ 19 → ⊥
    never e = not_short f e

    nothing_lower : (n : Need) → Lowered no_need n → report (refused_with f) (lent_for u n) ≡ shortage
    nothing_lower n (fewer_bytes k e) = absurd (omega (arith, e))
    nothing_lower n (fewer_records k e) = absurd (omega (arith, e))
    nothing_lower n (fewer_labels k e) = absurd (omega (arith, e))
exact (of_bytes len t n) = record { enough = with_all; none_less = with_less; same = same_as in_bytes (produced len t (n ∷ [])) }
  where
    of : Result
    of = record { length = len; outputs = t ∷ []; entries = n ∷ [] }

    with_all : (report (result of) (room 0 0 (length t) n)).number ≡ 19 → ⊥
    with_all = not_nineteen (reported of (room 0 0 (length t) n) false (fits (length t) n (length t) n (omega arith) (omega arith)))

    with_less : (m : Need) → Lowered (record { bytes = length t; records = 0; labels = n }) m → report (result of) (lent_for in_bytes m) ≡ shortage
    with_less m (fewer_bytes k e) = reported of (room 0 0 k n) true (small (length t) n k n (omega (arith, e)))
    with_less m (fewer_records k e) = absurd (omega (arith, e))
    with_less m (fewer_labels k e) = reported of (room 0 0 (length t) k) true (few (length t) n (length t) k (omega arith) (omega (arith, e)))
exact (of_records len t k h) = record { enough = with_all; none_less = with_less; same = same_as in_records (produced len t []) }
  where
    of : Result
    of = record { length = len; outputs = t ∷ []; entries = [] }

    with_all : (report (result of) (room 0 0 (20 * (length t / 20)) 0)).number ≡ 19 → ⊥
    with_all = not_nineteen (reported of (room 0 0 (20 * (length t / 20)) 0) false (fits₁ (length t) (20 * (length t / 20)) 0 (omega (arith, h))))

    with_less : (m : Need) → Lowered (record { bytes = 0; records = length t / 20; labels = 0 }) m → report (result of) (lent_for in_records m) ≡ shortage
    with_less m (fewer_bytes j e) = absurd (omega (arith, e))
    with_less m (fewer_records j e) = reported of (room 0 0 (20 * j) 0) true (small₁ (length t) (20 * j) 0 (omega (arith, e, h)))
    with_less m (fewer_labels j e) = absurd (omega (arith, e))
