use Rattle.sheet.proofs.RowLaws.{one_most, sum_more, sum_all}
use Rattle.spec_sheet.specs.Row.{sum_by, one_for}
use lib.ListN.{length, get_or}
use native.Mathlib.Omega.{arith}
use mathlib.Core.Path.{◌≡◌, refl, ◌∙◌}
use borrow.Author.Rules.{rules}
use Rattle.sheet.proofs.row.operand_count.Goals as goal

pub loop-i-init : goal.loop-i-init
unfolding sum_by
loop-i-init c = (search rules, search rules, refl)

pub overflow_add-n : goal.overflow_add-n
overflow_add-n c = omega (arith, c.one_for-n.ensures, one_most (get_or c.args.row c.loop-i.i 0))

pub loop-i-preserved : goal.loop-i-preserved
loop-i-preserved c =
    let l = c.loop-i in
    let row = c.args.row in
    let h : length row ≡ 8 = search rules in
    (search rules, omega (arith, c.one_for-n.ensures, one_most (get_or row l.i 0)), omega (arith, c.one_for-n.ensures, sum_more one_for row l.i (omega arith)))

pub returns : goal.returns
returns c =
    let l = c.loop-i in
    let row = c.args.row in
    let h : length row ≡ 8 = search rules in
    let e : l.i ≡ 8 = omega arith in
    l.invariant.2 ∙ rw (e, sum_all one_for row 8 (omega arith))
