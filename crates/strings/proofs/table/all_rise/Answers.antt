use Rattle.std.proofs.Common.{arith}
use Rattle.std.proofs.lemmas.Iterator.{window_more}
use Rattle.strings.proofs.AsciiLaws.{one_pair}
use Rattle.strings.proofs.table.all_rise.Goals as goal

pub loop-pair-preserved : goal.loop-pair-preserved
loop-pair-preserved c =
    let ends = c.args.ends.now in
    let i = c.loop-pair.invariant in
    let more = window_more ends c.loop-pair.pair-iterator c.next.new.self c.next.result c.in-Some.pair c.in-Some.is c.next.ensures.steps (omega (arith, i.pairs)) i.few i.left in
    record {
      pairs = omega (arith, c.next.ensures.steps.0, i.pairs);
      few = omega (arith, more.0, i.few);
      left = more.1;
      rise = one_pair ends _ _ c.loop-pair.rising _ _ i.rise more.0 i.few (more.3 0 0 (omega (arith, i.pairs))) (more.3 1 0 (omega (arith, i.pairs)));
    }

pub returns : goal.returns
returns c = λ e j h. let i = c.loop-pair.invariant in i.rise e j (omega (arith, h, i.pairs, i.few, c.in-None.ensures.steps.1.0))
