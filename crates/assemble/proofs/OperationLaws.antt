-- Assembling by the length of its text. Assumes nothing.
use mathlib.Core.Path.{◌≡◌, refl, ap}
use mathlib.Core.List.{List}
use Prim.Native.Nat.{ℕ, ◌<◌, ◌≤◌}
use lib.ListN.{length, replicate}
use borrow.Author.Tests.{lt-ltb, le-ltb}
use Rattle.answers.specs.Report.{Report, zeros}
use Rattle.answers.specs.Outcome.{Outcome, Ended}
use Rattle.answers.specs.Outcome.Outcome.{refused_with}
use Rattle.answers.specs.declared.refusal.Refusal.{Refusal}
use Rattle.answers.specs.declared.refusal.Refusal.TheVariants.{TooLarge}
use Rattle.answers.proofs.OutcomeLaws.{refused_end}
use Rattle.spec_inputs.specs.Context.{Context, context_from}
use Rattle.spec_inputs.specs.Inputs.{under_inputs}
use Rattle.spec_hasm.specs.Operation.{assemble}
use Rattle.operation.specs.Read.{Given}
use Rattle.answers.specs.declared.failure.Failure.{Failure}
use Rattle.answers.specs.declared.failure.Failure.TheVariants.{Refused}
use Rattle.answers.specs.Answers.{answer_report}
use Rattle.operation.specs.Ends.{left_by}
use Rattle.std.proofs.Common.{Result, Ok, Err}
use Rattle.operation.proofs.EndedLaws.{read_on, refused_on}
use Rattle.assemble.specs.Passes.{text_outcome}

-- a text under a sheet, whose largest opcode does not count
abbrev text_under : List ℕ → Context → ℕ → Outcome
text_under text e last = text_outcome e text

module _ (sheet bytes ends text : List ℕ) where
  large : 1048576 < length text → assemble sheet bytes ends text ≡ refused_with TooLarge
  unfolding assemble
  large h = rw (lt-ltb 1048576 (length text) h)

  small : length text ≤ 1048576 → assemble sheet bytes ends text ≡ under_inputs sheet bytes ends (text_under text)
  unfolding assemble
  small h = rw (le-ltb 1048576 (length text) h)

  -- a text under inputs that were read
  pub read_text : {types₀ ops₀ types ops : List (List ℕ)} {last : ℕ} {before room after : List ℕ} {r : Report} → length text ≤ 1048576 → Given sheet bytes ends types₀ ops₀ types ops (Ok last)
      → Ended (text_outcome (context_from sheet types ops bytes ends) text) before room after r → Ended (assemble sheet bytes ends text) before room after r
  read_text h g e = rw (small h) (read_on (text_under text) g e)

  module _ {before room : List ℕ} (now : List ℕ) (answer : Result ℕ Failure) where
    -- what is left of an operation that refuses
    refusal_end : (x : Refusal) → answer ≡ Err (Refused x) → length now ≡ length before → assemble sheet bytes ends text ≡ refused_with x
        → Ended (assemble sheet bytes ends text) before room (left_by answer now) (answer_report answer)
    refusal_end x a l e = rw a (refused_end _ x before room (zeros now) _ e refl (ap (λ (n : ℕ). replicate n 0) l))

    -- a text that is too large
    pub large_text : 1048576 < length text → answer ≡ Err (Refused TooLarge) → length now ≡ length before → Ended (assemble sheet bytes ends text) before room (left_by answer now) (answer_report answer)
    large_text h a l = refusal_end TooLarge a l (large h)

    module _ {types₀ ops₀ types ops : List (List ℕ)} (h : length text ≤ 1048576) where
      -- under inputs that are refused
      pub refused_inputs : {x : Refusal} → Given sheet bytes ends types₀ ops₀ types ops (Err x) → answer ≡ Err (Refused x) → length now ≡ length before
          → Ended (assemble sheet bytes ends text) before room (left_by answer now) (answer_report answer)
      refused_inputs {x} g a l = rw a (rw (small h) (refused_on (text_under text) g refl (ap (λ (n : ℕ). replicate n 0) l)))
