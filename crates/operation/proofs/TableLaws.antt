-- What a look at a string table answers. Assumes nothing.
use mathlib.Core.Path.{◌≡◌, refl, ap, sym}
use mathlib.Core.Bool.{Bool, true, false}
use mathlib.Core.List.{List}
use Prim.Native.Nat.{ℕ}
use Rattle.std.specs.Prelude.{Ok, Err}
use Rattle.lists.specs.Choice.{pick}
use Rattle.lists.specs.Found.{Found}
use Rattle.lists.specs.Found.Found.{found, missing}
use Rattle.answers.specs.declared.refusal.Refusal.{Refusal}
use Rattle.answers.specs.declared.refusal.Refusal.TheVariants.{BadString, TooLarge}
use Rattle.spec_strings.specs.Table.{is_too_large, fault}
use Rattle.answers.specs.Refusals.{refusal_report}
use Rattle.answers.specs.Outcome.{Outcome}
use Rattle.answers.specs.Outcome.Outcome.{refused_with}
use Rattle.spec_inputs.specs.Inputs.{unless_fault, under_table}
use Rattle.operation.specs.Read.{rows_left}
use Rattle.operation.specs.Tables.{unless_faulty, table_check}

-- a table that has no fault is followed by the rest, and one that has a fault is refused, whatever follows
pub goes_on : (bytes ends : List ℕ) → table_check bytes ends ≡ Ok tt → (rest : Outcome) → under_table bytes ends rest ≡ rest
unfolding table_check unless_faulty under_table unless_fault
goes_on bytes ends e rest = by_case (is_too_large bytes ends) (fault bytes ends) e
  where
    by_case : (t : Bool) (f : Found) → pick t (Err TooLarge) (unless_faulty f) ≡ Ok tt → pick t (refused_with TooLarge) (unless_fault f rest) ≡ rest
    by_case true f q = cc q
    by_case false (found id) q = cc q
    by_case false missing q = refl

module _ (bytes ends : List ℕ) (x : Refusal) where
  pub refused : table_check bytes ends ≡ Err x → (rest : Outcome) → under_table bytes ends rest ≡ refused_with x
  unfolding table_check unless_faulty under_table unless_fault
  refused e rest = by_case (is_too_large bytes ends) (fault bytes ends) e
    where
      by_case : (t : Bool) (f : Found) → pick t (Err TooLarge) (unless_faulty f) ≡ Err x → pick t (refused_with TooLarge) (unless_fault f rest) ≡ refused_with x
      by_case true f q = let w : TooLarge ≡ x = cc q in ap refused_with w
      by_case false (found id) q = let w : BadString id ≡ x = cc q in ap refused_with w
      by_case false missing q = cc q

  -- its refusals leave rows as they were
  pub rows_kept : table_check bytes ends ≡ Err x → (rows none : List (List ℕ)) → rows ≡ rows_left x rows none
  unfolding table_check unless_faulty rows_left refusal_report
  rows_kept e rows none = by_case (is_too_large bytes ends) (fault bytes ends) e
    where
      by_case : (t : Bool) (f : Found) → pick t (Err TooLarge) (unless_faulty f) ≡ Err x → rows ≡ rows_left x rows none
      by_case true f q = let w : x ≡ TooLarge = sym (cc q) in rw w refl
      by_case false (found id) q = let w : x ≡ BadString id = sym (cc q) in rw w refl
      by_case false missing q = cc q
