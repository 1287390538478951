use mathlib.Core.Path.{refl, ◌∙◌}
use Rattle.decode.proofs.PairLaws.{record_written}
use Rattle.decode.proofs.PlanLaws.{plan_length, plan_counted}
use Rattle.decode.proofs.record.Instruction.put_record.Goals as goal

pub returns : goal.returns
returns c =
    let e = c.args.self.now.planned in
    let size = c.wide_byte-2.ensures.0 ∙ plan_length c.args.self.now.row c.args.self.now.plan.now e in
    let count = c.wide_byte-3.ensures.0 ∙ plan_counted c.args.self.now.row c.args.self.now.plan.now e in
    record_written c.args.self.now.row c.args.self.now.body.now c.args.out.now _ _ _ c.args.k c.args.self.now.at _ _ _ _ e.1 c.requires refl c.wide_byte.ensures.0 size count c.put_pair.ensures c.put_pair-2.ensures c.put_operands.ensures
