-- What decoding answers and leaves, case by case. Assumes nothing.
use mathlib.Core.Path.{◌≡◌, refl, sym, ap}
use mathlib.Core.List.{List, [], ◌++◌}
use Prim.Native.Nat.{ℕ, ◌*◌, ◌/◌, ◌≤◌, ◌<◌}
use native.Mathlib.Omega.{arith}
use lib.ListN.{length, drop, replicate}
use Rattle.answers.specs.Report.{zeros}
use Rattle.answers.specs.Outcome.{Outcome, exceeds, Ended}
use Rattle.answers.specs.Outcome.Outcome.{refused_with}
use Rattle.answers.specs.declared.refusal.Refusal.{Refusal}
use Rattle.answers.proofs.OutcomeLaws.{refused_end, small_end, result_end}
use Rattle.spec_body.specs.Record.{join}
use Rattle.spec_body.specs.Decode.{Decoded}
use Rattle.spec_body.specs.Decode.Decoded.{decoded, not_decoded}
use Rattle.spec_body.specs.Operation.{decode_outcome}
use Rattle.decode.specs.Bodies.{body_answer}
use Rattle.answers.specs.Answers.{answer_report}
use Rattle.answers.specs.declared.failure.Failure.TheVariants.{Refused, Short}
use Rattle.operation.specs.Ends.{left_by}
use Rattle.std.specs.Prelude.{Ok, Err}

-- the records of a body, as one pass leaves them
abbrev pub Passed : Decoded → List ℕ → List ℕ → Type 0
Passed d out out' =
    (rs : List (List ℕ)) → d ≡ decoded rs → (length (join rs) ≡ 20 * length rs) × (20 * length rs ≤ length out → out' ≡ join rs ++ drop (20 * length rs) out)

-- a refusal of any kind, which the caller clears
pub refused : {o : Outcome} {x : Refusal} {out : List ℕ} (now : List ℕ) → o ≡ refused_with x → length now ≡ length out → Ended o out [] (left_by (Err (Refused x)) now) (answer_report (Err (Refused x)))
refused {o} {x} {out} now e l = refused_end o x out [] (zeros now) _ e refl (ap (λ (n : ℕ). replicate n 0) l)

pub was_refused : (d : Decoded) {x : Refusal} → body_answer d ≡ Err x → decode_outcome d ≡ refused_with x
unfolding body_answer decode_outcome
was_refused (decoded rs) e = cc e
was_refused (not_decoded y) {x} e = let q : y ≡ x = cc e in rw q

-- too few words are lent, or enough
pub too_few : (d : Decoded) (n : ℕ) (out out' : List ℕ) → Passed d out out' → body_answer d ≡ Ok n → length out / 20 < n → length out' ≡ length out
    → Ended (decode_outcome d) out [] (left_by (Err Short) out') (answer_report (Err Short))
unfolding body_answer decode_outcome
too_few (decoded rs) n out out' p e h l =
    let q : length rs ≡ n = cc e in
    let w : length out < length (join rs) = omega (arith, (p rs refl).0) in
    small_end (length rs) (join rs) [] out [] w (zeros out') (ap (λ (m : ℕ). replicate m 0) l)
too_few (not_decoded x) n out out' p e h l = cc e

pub enough : (d : Decoded) (n : ℕ) (out out' : List ℕ) → Passed d out out' → body_answer d ≡ Ok n → n ≤ length out / 20 → Ended (decode_outcome d) out [] out' (answer_report (Ok n))
unfolding body_answer decode_outcome exceeds
enough (decoded rs) n out out' p e h =
    let q : length rs ≡ n = cc e in
    let w = p rs refl in
    let f : length (join rs) ≤ length out = omega (arith, w.0) in
    let g : 20 * length rs ≤ length out = omega (arith, w.0) in
    rw (sym q) (result_end (length rs) (join rs) [] out [] f refl out' (rw w.0 (w.1 g)))
enough (not_decoded x) n out out' p e h = cc e
