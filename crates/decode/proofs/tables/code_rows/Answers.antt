use Rattle.sheet.proofs.Filled.{none_made, one_more}
use Rattle.decode.proofs.TableLaws.{codes_made}
use borrow.Author.Rules.{rules}
use Rattle.decode.proofs.tables.code_rows.Goals as goal

pub loop-c-init : goal.loop-c-init
loop-c-init c = (search rules, none_made _ _)

pub loop-c-preserved : goal.loop-c-preserved
loop-c-preserved c =
    let l = c.loop-c in
    (search rules, one_more _ _ _ _ _ l.invariant.1 (search rules) c.code_row.ensures)

pub returns : goal.returns
returns c = codes_made _ _ c.loop-c.invariant.1 c.loop-c-test.false
