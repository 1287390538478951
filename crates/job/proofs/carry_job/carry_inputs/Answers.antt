use mathlib.Core.Path.{refl}
use native.Mathlib.Omega.{arith}
use Rattle.spec_inputs.specs.Context.{context_from}
use Rattle.job.proofs.AnswerLaws.{carried_sound, told_length, refusal_length}
use Rattle.job.proofs.CarryLaws.{carry_refused, carry_ready}
use Rattle.job.proofs.carry_job.carry_inputs.Goals as goal

pub returns-in-Err : goal.returns-in-Err
returns-in-Err c = record { ended = (λ os os₂ t o a t₂ o₂. carry_refused _ _ _ _ _ _ os os₂ _ _ _ _ _ c.check_tables.ensures _ c.in-Err.is refl c.clear.ensures); result_in_bounds = refusal_length _ c.args.out.now }

pub carry_within-requires : goal.carry_within-requires
carry_within-requires c = let p = c.requires in record { s_len_bound = (p.body_len_bound.0, omega (arith, p.body_len_bound.1), p.ids_len.0, p.ids_len.1); by_index = p.by_index }

pub returns : goal.returns
returns c =
    let x = c.args in
    let f = x.first in
    let s = x.second in
    let e = rw c.requires.one_job at c.carry_within.ensures.ended in
    record { ended = (λ os os₂ t o a t₂ o₂. carry_ready _ _ _ _ _ _ os os₂ _ _ _ _ _ c.check_tables.ensures _ _ _ _ _ c.in_default.is t o a t₂ o₂ e); result_in_bounds = told_length _ _ _ _ _ (carried_sound (context_from f.tables.text.now f.tables.types.now f.tables.ops.now f.strings.bytes.now f.strings.ends.now) (context_from f.tables.text.now s.tables.types.now s.tables.ops.now s.strings.bytes.now s.strings.ends.now) f.read.largest x.body.now) e }
