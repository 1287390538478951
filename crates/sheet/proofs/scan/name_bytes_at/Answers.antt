use native.Mathlib.Omega.{arith}
use lib.ListN.{drop, length-drop}
use Rattle.lists.proofs.Scans.{run_le}
use Rattle.spec_sheet.specs.Scan.{is_name_byte}
use Rattle.sheet.proofs.ByteClasses.{run_at}
use Rattle.sheet.proofs.scan.name_bytes_at.Goals as goal

pub returns : goal.returns
returns c =
    let a = c.args in
    let e = run_at is_name_byte a.s.now a.at c.name_bytes_in_front.result c.rest.ensures c.name_bytes_in_front.ensures.counted in
    (e, omega (arith, e, run_le is_name_byte (drop a.at a.s.now), length-drop a.at a.s.now))
