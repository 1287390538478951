use Rattle.std.proofs.Common.{arith}
use Rattle.strings.proofs.AsciiLaws.{ordered}
use Rattle.strings.proofs.table.StringTable.in_order.Goals as goal

pub returns-then-wide-self : goal.returns-then-wide-self
returns-then-wide-self c = λ e. let t = c.args.self in ordered t.bytes.now t.ends.now (c.all_rise.ensures e) (omega (arith, c.if-wide-self.true, c.wide.ensures.0, c.in-Some.ensures.item.3.1 0))
