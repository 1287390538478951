use Prim.Native.Nat.{◌<◌}
use native.Mathlib.Omega.{arith}
use mathlib.Core.Path.{◌≡◌, refl, ◌∙◌}
use lib.ListN.{length, get_or}
use Rattle.spec_sheet.proofs.TypeLaws.{width_most}
use Rattle.sheet.proofs.RowLaws.{one_most}
use Rattle.decode.proofs.PlanLoop.{plan_begun, planned, plan_ended}
use Rattle.decode.proofs.TableLaws.{width_in, kind_in}
use borrow.Author.Rules.{rules}
use Rattle.decode.proofs.tables.plan_row.Goals as goal

pub loop-i-init : goal.loop-i-init
loop-i-init c = plan_begun _ _

pub overflow_add-start : goal.overflow_add-start
overflow_add-start c =
    let code = get_or c.args.row c.loop-i.i 0 in
    omega (arith, c.loop-i.invariant.small, width_in c.args.codes.now code c.requires c.type_inv.c.fits, width_most code)

pub overflow_cast-count : goal.overflow_cast-count
overflow_cast-count c =
    let row = c.args.row in
    omega (arith, c.one_for.ensures, one_most (get_or row c.loop-i.i 0))

pub overflow_add-count : goal.overflow_add-count
overflow_add-count c =
    let l = c.loop-i in
    let row = c.args.row in
    omega (arith, l.invariant.few, c.one_for.ensures, one_most (get_or row l.i 0))

pub loop-i-preserved : goal.loop-i-preserved
loop-i-preserved c =
    let l = c.loop-i in
    let row = c.args.row in
    let code = get_or row l.i 0 in
    let h : length row ≡ 8 = search rules in
    let b : code < 256 = search rules in
    rw c.put_pair.ensures
    (planned row _ h refl _ _ _ _ l.invariant _ _ _ (omega arith) (kind_in c.args.codes.now code c.requires b) (width_in c.args.codes.now code c.requires b) c.one_for.ensures)

pub returns : goal.returns
returns c =
    let l = c.loop-i in
    let row = c.args.row in
    let h : length row ≡ 8 = search rules in
    (c.put_pair-2.ensures ∙ plan_ended row _ h refl _ _ _ _ l.invariant c.loop-i-test.false, h)
