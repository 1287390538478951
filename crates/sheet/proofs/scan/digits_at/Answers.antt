use native.Mathlib.Omega.{arith}
use lib.ListN.{drop, length-drop}
use Rattle.lists.proofs.Scans.{run_le}
use Rattle.spec_sheet.specs.Scan.{is_digit}
use Rattle.sheet.proofs.ByteClasses.{run_at}
use Rattle.sheet.proofs.scan.digits_at.Goals as goal

pub returns : goal.returns
returns c =
    let a = c.args in
    let e = run_at is_digit a.s.now a.at c.digits_in_front.result c.rest.ensures c.digits_in_front.ensures.counted in
    (e, omega (arith, e, run_le is_digit (drop a.at a.s.now), length-drop a.at a.s.now))
