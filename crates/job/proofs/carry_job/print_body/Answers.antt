use native.Mathlib.Omega.{arith}
use Rattle.job.proofs.ReadLaws.{was_body, was_bad_body, body_fits, front}
use Rattle.job.proofs.PrintLaws.{fault_prints}
use Rattle.job.proofs.CarryLaws.{carry_body_prints}
use Rattle.job.proofs.carry_job.print_body.Goals as goal

pub slice_bounds-print_in_space-end : goal.slice_bounds-print_in_space-end
slice_bounds-print_in_space-end c = omega (arith, body_fits _ _ _ (was_body c.body_at-read.ensures c.in-Ok.is) c.requires.job_len_bound.0)

pub print_in_space-requires : goal.print_in_space-requires
print_in_space-requires c = let p = c.requires in record { one_job = p.one_job; body_len_bound = (omega (arith, body_fits _ _ _ (was_body c.body_at-read.ensures c.in-Ok.is) c.requires.job_len_bound.0), p.job_len_bound.2, p.job_len_bound.3); by_index = p.by_index }

pub returns-in-Ok : goal.returns-in-Ok
returns-in-Ok c = λ os os₂ t o a t₂ o₂.
    let x = c.args in
    let job = x.first.tables.text.now in
    let s = x.second in
    let b = was_body c.body_at-read.ensures c.in-Ok.is in
    carry_body_prints job s.read.end s.read.line (record { opcodes = os; bytes = x.first.strings.bytes.now; ends = x.first.strings.ends.now }) (record { opcodes = os₂; bytes = s.strings.bytes.now; ends = s.strings.ends.now }) b (front c.in-Ok.n c.body_at-read.new.out)
    (omega (arith, body_fits job s.read.end s.read.line b c.requires.job_len_bound.0)) (c.print_in_space.ensures os os₂ t o a t₂ o₂)

pub returns-in-Err : goal.returns-in-Err
returns-in-Err c = λ os os₂ t o a t₂ o₂. fault_prints _ (was_bad_body c.body_at-read.ensures c.in-Err.is _) c.refused.ensures
