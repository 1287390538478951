use mathlib.Core.Path.{sym, ◌∙◌}
use native.Mathlib.Omega.{arith}
use Rattle.spec_body.proofs.DecodeLaws.{length_record}
use Rattle.decode.proofs.StoreLaws.{stored, not_stored}
use Rattle.decode.proofs.body.store_record.Goals as goal

pub returns-then-n-out : goal.returns-then-n-out
returns-then-n-out c =
    c.put_record.ensures ∙ stored c.args.out.now c.args.n _ (omega arith) (length_record c.args.instruction.now.row c.args.instruction.now.body.now c.args.instruction.now.at c.args.instruction.now.planned.1)

pub returns-else-n-out : goal.returns-else-n-out
returns-else-n-out c = let a = c.args in sym (not_stored a.out.now a.n _ (omega arith))
