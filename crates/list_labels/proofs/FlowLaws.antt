-- Which names end the flow, by their lengths. Assumes nothing.
use mathlib.Core.Path.{◌≡◌, refl}
use mathlib.Core.Bool.{Bool, true, false}
use mathlib.Core.List.{List}
use Prim.Native.Nat.{ℕ}
use native.Mathlib.Omega.{arith}
use lib.ListN.{length}
use borrow.Author.Tests.{eq-eqb, ne_eqb}
use Rattle.lists.specs.Choice.{either}
use Rattle.lists.specs.Scan.{same, part}
use Rattle.lists.specs.Text.{text}
use Rattle.lists.proofs.Scans.{same_lengths}
use Rattle.spec_listing.specs.Labels.{ends_flow}
use Rattle.list_labels.specs.FlowNames.{name_shown}

module _ (n : List ℕ) where
  -- a name that is of another length is not one of them
  not_ret : (length n ≡ 3 → ⊥) → same n (text "Ret") ≡ false
  unfolding text
  not_ret h = same_lengths n (text "Ret") h

  not_jmp : (length n ≡ 3 → ⊥) → same n (text "Jmp") ≡ false
  unfolding text
  not_jmp h = same_lengths n (text "Jmp") h

  not_throw : (length n ≡ 5 → ⊥) → same n (text "Throw") ≡ false
  unfolding text
  not_throw h = same_lengths n (text "Throw") h

  not_jmp_long : (length n ≡ 7 → ⊥) → same n (text "JmpLong") ≡ false
  unfolding text
  not_jmp_long h = same_lengths n (text "JmpLong") h

  alone : (p : Bool) → either p false ≡ p
  alone true = refl
  alone false = refl

  pub flow_ret : same n (text "Ret") ≡ true → ends_flow n ≡ true
  unfolding ends_flow
  flow_ret e = rw e

  pub flow_three : length n ≡ 3 → same n (text "Ret") ≡ false → ends_flow n ≡ same n (text "Jmp")
  unfolding ends_flow
  flow_three h e = rw (e, not_throw (λ g. omega arith), not_jmp_long (λ g. omega arith)) (alone (same n (text "Jmp")))

  pub flow_five : length n ≡ 5 → ends_flow n ≡ same n (text "Throw")
  unfolding ends_flow
  flow_five h = rw (not_ret (λ g. omega arith), not_jmp (λ g. omega arith), not_jmp_long (λ g. omega arith)) (alone (same n (text "Throw")))

  pub flow_seven : length n ≡ 7 → ends_flow n ≡ same n (text "JmpLong")
  unfolding ends_flow
  flow_seven h = rw (not_ret (λ g. omega arith), not_jmp (λ g. omega arith), not_throw (λ g. omega arith))

  pub flow_none : (length n ≡ 3 → ⊥) → (length n ≡ 5 → ⊥) → (length n ≡ 7 → ⊥) → ends_flow n ≡ false
  unfolding ends_flow
  flow_none a b c = rw (not_ret a, not_jmp a, not_throw b, not_jmp_long c)

-- a gap does not
pub flow_gap : ends_flow (text "<invalid>") ≡ false
unfolding ends_flow same text
flow_gap = refl

-- by the place of a name
module _ (sheet : List ℕ) (start size : ℕ) where
  pub named_gap : size ≡ 0 → ends_flow (name_shown sheet start size) ≡ false
  named_gap e = rw (eq-eqb size 0 e) flow_gap

  pub named : (size ≡ 0 → ⊥) → ends_flow (name_shown sheet start size) ≡ ends_flow (part sheet start size)
  named e = rw (ne_eqb size 0 e)
