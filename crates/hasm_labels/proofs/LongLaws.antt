-- Laws of the long labels. Assumes nothing.
use mathlib.Core.Path.{◌≡◌, refl, ap}
use mathlib.Core.Bool.{true, false}
use mathlib.Core.List.{List, [], ◌∷◌, ◌++◌}
use Prim.Native.Nat.{ℕ, ◌≤◌, ◌<◌}
use native.Mathlib.Omega.{arith}
use borrow.Author.Tests.{ltb-false, lt-ltb, le-ltb}
use lib.ListN.{length}
use Rattle.lists.specs.Scan.{same}
use Rattle.lists.specs.Found.{Found}
use Rattle.lists.specs.Found.Found.{found, missing}
use Rattle.lists.proofs.Tests.{by_test}
use Rattle.lists.proofs.Scans.{same_eq}
use Rattle.spec_hasm.specs.Assemble.{LabelAt, unless_found, label_offset}
use Rattle.hasm_labels.specs.LongLabels.{is_long, long_of}

pub long_none : long_of [] ≡ []
unfolding long_of
long_none = refl

module _ (s : List ℕ) where
  pub is_long_lem : 10 < length s → is_long s ≡ true
  unfolding is_long
  is_long_lem l = lt-ltb 10 (length s) l

  pub is_short : length s ≤ 10 → is_long s ≡ false
  unfolding is_long
  is_short l = le-ltb 10 (length s) l

-- a label more, behind the others: it is one more where it is long
module _ (l : LabelAt) where
  pub long_more : is_long l.text ≡ true → (ls : List LabelAt) → long_of (ls ++ (l ∷ [])) ≡ long_of ls ++ (l ∷ [])
  unfolding long_of
  long_more e [] = rw e refl
  long_more e (m ∷ ls) =
      by_test (is_long m.text)
      (λ t. rw (t, long_of) (ap (λ (k : List LabelAt). m ∷ k) (long_more e ls)))
      (λ t. rw (t, long_of) (long_more e ls))

  pub long_same : is_long l.text ≡ false → (ls : List LabelAt) → long_of (ls ++ (l ∷ [])) ≡ long_of ls
  unfolding long_of
  long_same e [] = rw e refl
  long_same e (m ∷ ls) =
      by_test (is_long m.text)
      (λ t. rw (t, long_of) (ap (λ (k : List LabelAt). m ∷ k) (long_same e ls)))
      (λ t. rw (t, long_of) (long_same e ls))

-- a search goes on behind a label that is not found
on_missing : (x : Found) → unless_found x missing ≡ x
unfolding unless_found
on_missing (found k) = refl
on_missing missing = refl

-- a long text is searched for among the long labels
module _ (t : List ℕ) (n : 10 < length t) where
  unequal : (s : List ℕ) → is_long s ≡ false → same s t ≡ false
  unfolding is_long
  unequal s e = by_test (same s t) (λ q. absurd (omega (arith, ltb-false 10 (length s) e, ap length (same_eq s t q), n))) (λ q. q)

  pub long_offset : (ls : List LabelAt) → label_offset (long_of ls) t ≡ label_offset ls t
  unfolding long_of label_offset
  long_offset [] = refl
  long_offset (l ∷ ls) =
      by_test (is_long l.text)
      (λ e. rw (e, label_offset, long_offset ls) refl)
      (λ e. rw (e, unequal l.text e, on_missing (label_offset ls t)) (long_offset ls))
