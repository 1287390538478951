use Rattle.numbers.proofs.ReadLaws.{hex_short, hex_full}
use Rattle.numbers.specs.Answers.{number_of}
use Rattle.std.proofs.Common.{sym, ap, ◌∙◌}
use Rattle.numbers.proofs.read_double.read_hex16.Goals as goal

pub returns-then-s-ne18 : goal.returns-then-s-ne18
returns-then-s-ne18 c = sym (ap number_of (hex_short c.args.s.now c.if-s-ne18.true))

pub returns : goal.returns
returns c = c.unsigned_value.ensures ∙ sym (ap number_of (hex_full c.args.s.now c.if-s-ne18.false))
