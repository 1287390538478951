use Prim.Native.Nat.{◌%◌, ◌<◌}
use native.Mathlib.Omega.{arith}
use borrow.Author.Tests.{ltb-true, ne_eqb}
use Rattle.lists.proofs.Tests.{within_low}
use Rattle.spec_sheet.specs.Scan.{is_name_byte}
use Rattle.sheet.proofs.type_word.ends_type.Goals as goal

pub returns : goal.returns
unfolding is_name_byte
returns c e =
    let b = c.args.v % 256 in
    let h : b < 48 = ltb-true b 48 e in
    rw (within_low 65 90 b (omega arith), within_low 97 122 b (omega arith), within_low 48 57 b h, ne_eqb b 95 (λ q. omega arith))
