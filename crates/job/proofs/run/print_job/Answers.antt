use native.Mathlib.Omega.{arith}
use Rattle.job.proofs.PrintLaws.{fault_prints}
use Rattle.job.proofs.ReadLaws.{was_inputs, was_bad_inputs, inputs_fits, inputs_zeros, front}
use Rattle.job.proofs.RunLaws.{list_prints, assemble_prints, carry_prints, inputs_off}
use Rattle.job.proofs.run.print_job.Goals as goal

pub slice_bounds-inputs-end : goal.slice_bounds-inputs-end
slice_bounds-inputs-end c = omega (arith, (inputs_fits c.args.job.now c.args.start 2 (was_inputs c.inputs_at.ensures c.in-Ok.is) c.requires).1)

pub slice_bounds-inputs-end-2 : goal.slice_bounds-inputs-end-2
slice_bounds-inputs-end-2 c = omega (arith, (inputs_fits c.args.job.now c.args.start 2 (was_inputs c.inputs_at.ensures c.in-Ok.is) c.requires).0)

pub print_list-requires : goal.print_list-requires
print_list-requires c =
    let p = c.requires in
    let x = c.args in
    let w = was_inputs c.inputs_at.ensures c.in-Ok.is in
    let f = inputs_fits x.job.now x.start 2 w p in
    (p, omega (arith, f.2))

pub print_assembled-requires : goal.print_assembled-requires
print_assembled-requires c =
    let p = c.requires in
    let x = c.args in
    let w = was_inputs c.inputs_at.ensures c.in-Ok.is in
    let f = inputs_fits x.job.now x.start 2 w p in
    (p, omega (arith, f.0))

pub print_carry-requires : goal.print_carry-requires
print_carry-requires c =
    let p = c.requires in
    let x = c.args in
    let w = was_inputs c.inputs_at.ensures c.in-Ok.is in
    let f = inputs_fits x.job.now x.start 2 w p in
    record { job_len_bound = (p, f.2, omega (arith, f.0)); by_index = inputs_zeros x.job.now x.start 2 w p }

pub returns-in-List : goal.returns-in-List
returns-in-List c =
    let p = c.requires in
    let x = c.args in
    let w = was_inputs c.inputs_at.ensures c.in-Ok.is in
    let f = inputs_fits x.job.now x.start 2 w p in
    list_prints x.job.now x.start w p x.work _ _ (front c.in-Ok.read.size c.inputs_at.new.bytes) (front c.in-Ok.read.count c.inputs_at.new.ends)
    (omega (arith, f.1)) (omega (arith, f.0)) _ _ _ c.in-List.is c.print_list.ensures

pub returns-in-Assemble : goal.returns-in-Assemble
returns-in-Assemble c =
    let p = c.requires in
    let x = c.args in
    let w = was_inputs c.inputs_at.ensures c.in-Ok.is in
    let f = inputs_fits x.job.now x.start 2 w p in
    assemble_prints x.job.now x.start w p x.work _ _ (front c.in-Ok.read.size c.inputs_at.new.bytes) (front c.in-Ok.read.count c.inputs_at.new.ends)
    (omega (arith, f.1)) (omega (arith, f.0)) _ _ _ c.in-Assemble.is c.print_assembled.ensures

pub returns-in-Carry : goal.returns-in-Carry
returns-in-Carry c =
    let p = c.requires in
    let x = c.args in
    let w = was_inputs c.inputs_at.ensures c.in-Ok.is in
    let f = inputs_fits x.job.now x.start 2 w p in
    carry_prints x.job.now x.start w p x.work _ _ (front c.in-Ok.read.size c.inputs_at.new.bytes) (front c.in-Ok.read.count c.inputs_at.new.ends)
    (omega (arith, f.1)) (omega (arith, f.0)) _ _ _ c.in-Carry.is c.print_carry.ensures

pub returns-in-Err : goal.returns-in-Err
returns-in-Err c =
    let x = c.args in
    fault_prints x.job.now (inputs_off x.job.now x.start x.work (was_bad_inputs c.inputs_at.ensures c.in-Err.is)) c.refused.ensures
