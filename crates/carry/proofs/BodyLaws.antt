-- What a body is carried to, pass by pass. Assumes nothing.
use mathlib.Core.Path.{◌≡◌, refl, sym, ◌∙◌}
use mathlib.Core.List.{List, [], ◌∷◌, ◌++◌}
use Prim.Native.Nat.{ℕ}
use native.Mathlib.Omega.{arith}
use lib.Dec.{ltb}
use lib.ListN.{length}
use Rattle.lists.specs.Write.{Put}
use Rattle.limits.specs.Limits.{body_limit}
use Rattle.answers.specs.Report.{zeros}
use Rattle.answers.specs.Refusals.{refusal_report}
use Rattle.answers.specs.Outcome.{Outcome, produced, measured, Ended}
use Rattle.answers.specs.Outcome.Outcome.{refused_with}
use Rattle.answers.proofs.OutcomeLaws.{refused_end}
use Rattle.answers.specs.declared.refusal.Refusal.{Refusal}
use Rattle.answers.specs.declared.refusal.Refusal.TheVariants.{TooLarge}
use Rattle.std.specs.Prelude.{Result}
use Rattle.answers.specs.Answers.{answer_report}
use Rattle.answers.specs.declared.failure.Failure.{Failure}
use Rattle.operation.specs.Ends.{measured_of, left_by}
use Rattle.operation.proofs.EndLaws.{measured_end}
use Rattle.spec_inputs.specs.Context.{Context}
use Rattle.spec_body.specs.Decode.{decode_body}
use Rattle.spec_body.specs.Decode.Decoded.{decoded, not_decoded}
use Rattle.spec_carry.specs.Cases.{Case, case, unless_case}
use Rattle.spec_carry.specs.Passes.{Carrying, first_pass, second_pass, new_bytes}
use Rattle.spec_carry.specs.Carry.{carrying, decode_cases, records_in, carry_under}

module _ (a b : Context) (last : ℕ) (s : List ℕ) where
  -- a body that does not decode
  pub not_decoded_lem : (x : Refusal) → decode_body a.types last s ≡ not_decoded x → carry_under a b last s ≡ refused_with x
  unfolding decode_cases records_in unless_case
  not_decoded_lem x e = rw e

  -- and one that does
  module _ (rs : List (List ℕ)) (e : decode_body a.types last s ≡ decoded rs) where
    abbrev x : Carrying
    x = carrying a b (length s) rs

    abbrev bs : List ℕ
    bs = new_bytes x 0 rs

    abbrev tail : List Case
    tail = case (ltb body_limit (length bs)) TooLarge ∷ []

    abbrev result : Outcome
    result = produced (length bs) bs (length rs ∷ [])

    is_decoded : carry_under a b last s ≡ unless_case (first_pass x 0 rs ++ (second_pass x 0 rs ++ tail)) result
    unfolding decode_cases records_in
    is_decoded = rw e

    -- one of the passes refuses it
    pub pass_refused : (f : Refusal) → ((cs : List Case) (rest : Outcome) → unless_case (first_pass x 0 rs ++ (second_pass x 0 rs ++ cs)) rest ≡ refused_with f) → carry_under a b last s ≡ refused_with f
    pass_refused f p = is_decoded ∙ p tail result

    -- both pass
    module _ (p : (cs : List Case) (rest : Outcome) → unless_case (first_pass x 0 rs ++ (second_pass x 0 rs ++ cs)) rest ≡ unless_case cs rest) where
      both_passed : carry_under a b last s ≡ measured body_limit (length rs ∷ []) bs
      unfolding unless_case measured
      both_passed = is_decoded ∙ p tail result

      -- all was written and measured
      pub written_end : {before now after : List ℕ} (k n room : ℕ) (r : Result ℕ Failure)
          → Put before 0 bs now k → n ≡ length rs → r ≡ measured_of k 65536 n room (length now) → after ≡ left_by r now → Ended (carry_under a b last s) before (room ∷ []) after (answer_report r)
      written_end {before} {now} {after} k n room r put c e' z =
          rw (both_passed, sym c) (measured_end 65536 (omega arith) bs before now k n room put r after e' z)

-- a refusal ends it
pub refused : {o : Outcome} {before room after : List ℕ} (x : Refusal) → o ≡ refused_with x → after ≡ zeros before → Ended o before room after (refusal_report x)
refused {o} {before} {room} {after} x e z = refused_end o x before room after _ e refl z
