use mathlib.Core.Path.{refl}
use native.Mathlib.Omega.{arith}
use Rattle.spec_job.proofs.JobLaws.{second_bad}
use Rattle.job.proofs.ReadLaws.{was_inputs, was_bad_inputs, inputs_fits, inputs_zeros, front}
use Rattle.job.proofs.PrintLaws.{fault_prints}
use Rattle.job.proofs.CarryLaws.{second_prints}
use Rattle.job.proofs.carry_job.print_carry.Goals as goal

pub slice_bounds-second-end : goal.slice_bounds-second-end
slice_bounds-second-end c =
    let x = c.args.first in
    omega (arith, (inputs_fits x.tables.text.now x.read.end x.read.line (was_inputs c.inputs_at-inputs.ensures c.in-Ok.is) c.requires.job_len_bound.0).1)

pub slice_bounds-second-end-in-Ok : goal.slice_bounds-second-end-in-Ok
slice_bounds-second-end-in-Ok c =
    let x = c.args.first in
    omega (arith, (inputs_fits x.tables.text.now x.read.end x.read.line (was_inputs c.inputs_at-inputs.ensures c.in-Ok.is) c.requires.job_len_bound.0).0)

pub print_body-requires : goal.print_body-requires
print_body-requires c =
    let p = c.requires in
    let x = c.args.first in
    let w = was_inputs c.inputs_at-inputs.ensures c.in-Ok.is in
    let f = inputs_fits x.tables.text.now x.read.end x.read.line w p.job_len_bound.0 in
    record { one_job = refl; job_len_bound = (p.job_len_bound.0, omega (arith, f.2, p.job_len_bound.1), p.job_len_bound.2, omega (arith, f.0)); by_index = (p.by_index, inputs_zeros x.tables.text.now x.read.end x.read.line w p.job_len_bound.0) }

pub returns-in-Ok : goal.returns-in-Ok
returns-in-Ok c = λ os t o a.
    let p = c.requires in
    let x = c.args.first in
    let job = x.tables.text.now in
    let w = was_inputs c.inputs_at-inputs.ensures c.in-Ok.is in
    let f = inputs_fits job x.read.end x.read.line w p.job_len_bound.0 in
    second_prints job x.read.end x.read.line w p.job_len_bound.0 (record { opcodes = os; bytes = x.strings.bytes.now; ends = x.strings.ends.now }) _ _ (front c.in-Ok.read.size c.inputs_at-inputs.new.bytes) (front c.in-Ok.read.count c.inputs_at-inputs.new.ends)
    (omega (arith, f.1)) (omega (arith, f.0)) _ _ _ (λ os₂ t₂ o₂. c.print_body.ensures os os₂ t o a t₂ o₂)

pub returns-in-Err : goal.returns-in-Err
returns-in-Err c = λ os t o a.
    let x = c.args.first in
    let b = was_bad_inputs c.inputs_at-inputs.ensures c.in-Err.is in
    fault_prints x.tables.text.now (b.0, b.1, second_bad x.tables.text.now x.read.end x.read.line (record { opcodes = os; bytes = x.strings.bytes.now; ends = x.strings.ends.now }) _ b.2) c.refused.ensures
