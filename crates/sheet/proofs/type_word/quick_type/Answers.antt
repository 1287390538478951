use Prim.Native.Nat.{◌+◌}
use mathlib.Core.Path.{sym, ◌∙◌}
use lib.ListN.{length}
use borrow.Author.Tests.{leb-true}
use native.Mathlib.Omega.{arith}
use Rattle.sheet.proofs.TypeWordLaws.{name_read}
use Rattle.sheet.proofs.type_word.quick_type.Goals as goal

pub returns-then-ends_type : goal.returns-then-ends_type
returns-then-ends_type c =
    let y = c.in_ok-code.ensures in
    name_read c.args.s.now c.args.at c.loop-n.n (λ i. (c.type_inv.s i).fits) (leb-true (c.args.at + 8) (length c.args.s.now) (sym c.has_left.ensures ∙ c.if-not-has_left.false)) (omega arith) (omega arith) _ _ c.read_of_eight-w.ensures (c.ends_type.ensures c.if-ends_type.true) y.0 y.1
