-- From one pass over a text to the next. Assumes nothing.
use mathlib.Core.Path.{◌≡◌, refl, ap, sym, ◌∙◌}
use mathlib.Core.List.{List, [], ◌∷◌}
use mathlib.Core.Bool.{Bool, true, false}
use Prim.Native.Nat.{ℕ, ◌≤◌}
use native.Mathlib.Omega.{arith}
use lib.ListN.{length, take, replicate, length-replicate}
use Rattle.std.proofs.Common.{Result, Ok, Err}
use lib.Seq.{take_all}
use Rattle.lists.specs.Choice.{pick}
use Rattle.lists.proofs.Tests.{by_test}
use Rattle.answers.specs.Report.{zeros}
use Rattle.answers.specs.Answers.{answer_report}
use Rattle.answers.specs.declared.failure.Failure.{Failure}
use Rattle.answers.specs.declared.failure.Failure.TheVariants.{Refused}
use Rattle.answers.specs.Outcome.{Ended}
use Rattle.answers.specs.declared.refusal.Refusal.{Refusal}
use Rattle.answers.proofs.OutcomeLaws.{refused_end}
use Rattle.spec_inputs.specs.Context.{Context}
use Rattle.spec_hasm.specs.Text.{lines_of}
use Rattle.spec_hasm.specs.Assemble.{Assembled, codes_of, unless_bad_line, unless_bad_name, labels_from, bytes_from, assemble_codes, assemble_text}
use Rattle.spec_hasm.specs.Assemble.Assembled.{not_assembled}
use Rattle.spec_hasm.specs.Operation.{assemble_outcome}
use Rattle.hasm_labels.specs.Slots.{labels_in}
use Rattle.hasm_labels.specs.LongLabels.{bare_label, long_of}
use Rattle.hasm_labels.specs.Keys.{LabelsIndexed}
use Rattle.hasm_labels.specs.Labelled.{Labelled}
use Rattle.hasm_labels.specs.NamesRead.{AllNamed}
use Rattle.hasm_labels.specs.declared.names_pass.Taken.{Taken}
use Rattle.operation.specs.Ends.{measured_of, left_by}
use Rattle.operation.proofs.EndLaws.{measured_end}
use Rattle.assemble.specs.Contexts.{labels_of}
use Rattle.assemble.specs.Bodies.{BodyPut}
use Rattle.assemble.specs.Passes.{Named}

-- a text that no earlier pass refuses evaluates to its instructions' bytes
pub good_text : (e : Context) (text : List ℕ) → ((rest : Assembled) → unless_bad_line 1 (lines_of text) rest ≡ rest) → ((rest : Assembled) → unless_bad_name e (codes_of e text) rest ≡ rest)
    → assemble_text e text ≡ bytes_from e (labels_of e text) 0 (codes_of e text)
unfolding assemble_text assemble_codes
good_text e text l n = l _ ∙ n _

-- what is known of the labels, with an index of the long ones where it is whole
module _ {e : Context} {text : List ℕ} {slots : List (List ℕ)} {taken : Taken} (n : Named e text taken slots) where
  pub known_by : {index : List ℕ} {m heads : ℕ} {owned : Bool} (whole : Bool) → heads ≡ pick whole m 0 → (whole ≡ true → LabelsIndexed owned text slots index m (long_of (labels_from e 0 (codes_of e text))))
      → Labelled e text slots index (record { heads = heads; owned = owned; place = taken.place })
  known_by whole h f = record {
    named = n.named;
    indexed = λ l. by_test whole (λ w. rw (h, w) (f w)) (λ w. absurd (omega (arith, l, rw w at h)));
    bare = n.bare;
  }

  -- the slots hold the long labels, where they fit
  pub known_slots : {index : List ℕ} {m : ℕ} → taken.kept ≤ length slots → LabelsIndexed false text slots index m (labels_in text (take taken.kept slots)) → LabelsIndexed false text slots index m (long_of (labels_from e 0 (codes_of e text)))
  known_slots l i = rw (n.held l) at i

-- what is left once it is cleared is left as it is
left_twice : (answer : Result ℕ Failure) (now after : List ℕ) → after ≡ left_by answer now → left_by answer after ≡ after
left_twice (Ok n) now after e = refl
left_twice (Err f) now after e = ap (λ (n : ℕ). replicate n 0) (ap length e ∙ length-replicate (length now) 0) ∙ sym e

-- the answer and the output of a text whose instructions x were written and measured
pub body_end : {x : Assembled} {before now after : List ℕ} (entries k count room : ℕ) (answer : Result ℕ Failure) → BodyPut x before now k → count ≡ entries
    → answer ≡ measured_of k 65536 count room (length now) → after ≡ left_by answer now → Ended (assemble_outcome entries x) before (room ∷ []) (left_by answer after) (answer_report answer)
unfolding assemble_outcome
body_end {x} {before} {now} {after} entries k count room answer b n e z =
    rw (b.whole, sym n, left_twice answer now after z) (measured_end 65536 (omega arith) b.bytes before now k count room b.put answer after e z)

-- and of one that a pass refuses
pub refused_text : {x : Assembled} {y : Refusal} {before room : List ℕ} (now : List ℕ) (entries : ℕ) (answer : Result ℕ Failure) → x ≡ not_assembled y → answer ≡ Err (Refused y) → length now ≡ length before
    → Ended (assemble_outcome entries x) before room (left_by answer now) (answer_report answer)
unfolding assemble_outcome
refused_text {y = y} {before} {room} now entries answer e a l = rw a (refused_end _ y before room (zeros now) _ (rw e refl) refl (ap (λ (n : ℕ). replicate n 0) l))

-- the names of a text, from the pass's answer
pub were_good : {e : Context} {text : List ℕ} {slots slots' : List (List ℕ)} {m : ℕ} {index : List ℕ} {taken : Taken} → AllNamed e text bare_label slots slots' m index taken → Named e text taken slots'
were_good {e} {text} {slots} {slots'} h = record {
  named = h.named;
  counted = h.counted;
  held = λ l. h.stored ∙ take_all (length slots') (long_of (labels_from e 0 (codes_of e text))) (omega (arith, h.long, l));
  bare = h.place;
}

-- a text whose lines are good, and a name of which is refused
pub name_refused : (e : Context) (text : List ℕ) {x : Refusal} → ((rest : Assembled) → unless_bad_line 1 (lines_of text) rest ≡ rest) → ((rest : Assembled) → unless_bad_name e (codes_of e text) rest ≡ not_assembled x)
    → assemble_text e text ≡ not_assembled x
unfolding assemble_text assemble_codes
name_refused e text l n = l _ ∙ n _

-- and one of which a line is refused
pub line_refused : (e : Context) (text : List ℕ) {x : Refusal} → ((rest : Assembled) → unless_bad_line 1 (lines_of text) rest ≡ not_assembled x) → assemble_text e text ≡ not_assembled x
unfolding assemble_text
line_refused e text l = l _
