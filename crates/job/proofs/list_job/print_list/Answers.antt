use native.Mathlib.Omega.{arith}
use Rattle.job.proofs.ReadLaws.{was_body, was_bad_body, body_fits, front}
use Rattle.job.proofs.PrintLaws.{fault_prints}
use Rattle.job.proofs.ListLaws.{body_prints}
use Rattle.job.proofs.list_job.print_list.Goals as goal

pub slice_bounds-print_listing-end : goal.slice_bounds-print_listing-end
slice_bounds-print_listing-end c = omega (arith, body_fits _ _ _ (was_body c.body_at-read.ensures c.in-Ok.is) c.requires.0)

pub print_listing-requires : goal.print_listing-requires
print_listing-requires c = omega (arith, body_fits _ _ _ (was_body c.body_at-read.ensures c.in-Ok.is) c.requires.0)

pub returns-in-Ok : goal.returns-in-Ok
returns-in-Ok c = λ os t o a.
    let x = c.args.inputs in
    let b = was_body c.body_at-read.ensures c.in-Ok.is in
    body_prints x.tables.text.now x.read.end x.read.line (record { opcodes = os; bytes = x.strings.bytes.now; ends = x.strings.ends.now }) b (front c.in-Ok.n c.body_at-read.new.out) (omega (arith, body_fits x.tables.text.now x.read.end x.read.line b c.requires.0)) (c.print_listing.ensures os t o a)

pub returns-in-Err : goal.returns-in-Err
returns-in-Err c = λ os t o a. fault_prints _ (was_bad_body c.body_at-read.ensures c.in-Err.is _) c.refused.ensures
