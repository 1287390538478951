use Rattle.sheet.proofs.RowLaws.{sum_more, sum_all}
use Rattle.spec_sheet.proofs.TypeLaws.{width_most}
use Rattle.spec_sheet.specs.Types.{width_of}
use Rattle.spec_sheet.specs.Row.{sum_by}
use lib.ListN.{length, get_or}
use native.Mathlib.Omega.{arith}
use mathlib.Core.Path.{◌≡◌, refl, ◌∙◌}
use borrow.Author.Rules.{rules}
use Rattle.sheet.proofs.row.instruction_length.Goals as goal

pub loop-i-init : goal.loop-i-init
unfolding sum_by
loop-i-init c = (search rules, search rules, refl)

pub overflow_add-n : goal.overflow_add-n
overflow_add-n c =
    let l = c.loop-i in
    let row = c.args.row in
    omega (arith, c.width-n.ensures, width_most (get_or row l.i 0))

pub loop-i-preserved : goal.loop-i-preserved
loop-i-preserved c =
    let l = c.loop-i in
    let row = c.args.row in
    let h : length row ≡ 8 = search rules in
    (search rules, omega (arith, c.width-n.ensures, width_most (get_or row l.i 0)), omega (arith, c.width-n.ensures, sum_more width_of row l.i (omega arith)))

pub returns : goal.returns
returns c =
    let l = c.loop-i in
    let row = c.args.row in
    let h : length row ≡ 8 = search rules in
    let e : l.i ≡ 8 = omega arith in
    (l.invariant.2 ∙ rw (e, sum_all width_of row 8 (omega arith)), omega arith)
