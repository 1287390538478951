use Rattle.listing.proofs.OperandsLoop.{start, operand_room, turn, stopped, ended}
use lib.ListN.{length}
use native.Mathlib.Omega.{arith}
use mathlib.Core.Path.{◌≡◌, refl}
use borrow.Author.Rules.{rules}
use Rattle.listing.proofs.operand_text.put_operands.Goals as goal

pub loop-i-init : goal.loop-i-init
loop-i-init c = start (omega arith) (omega arith) c.requires.0

pub shape_of-out-then-code-eq0 : goal.shape_of-out-then-code-eq0
shape_of-out-then-code-eq0 c = c.loop-i.invariant.left.same_size

pub returns-then-code-eq0 : goal.returns-then-code-eq0
returns-then-code-eq0 c =
    let h : length c.args.row ≡ 8 = search rules in
    stopped c.loop-i.invariant _ c.loop-i-test.true h refl c.if-code-eq0.true

pub read_bits-bits-requires : goal.read_bits-bits-requires
read_bits-bits-requires c =
    let h : length c.args.row ≡ 8 = search rules in
    omega (arith, operand_room c.loop-i.invariant _ (omega arith) refl)

pub put_operand-n-requires : goal.put_operand-n-requires
put_operand-n-requires c = (omega (arith, c.requires), c.read_bits-bits.ensures.1)

pub overflow_add-p-in-loop-i : goal.overflow_add-p-in-loop-i
overflow_add-p-in-loop-i c =
    let l = c.loop-i in
    let h : length c.args.row ≡ 8 = search rules in
    omega (arith, c.width-p.ensures, operand_room l.invariant _ (omega arith) refl)

pub loop-i-preserved : goal.loop-i-preserved
loop-i-preserved c =
    let l = c.loop-i in
    let h : length c.args.row ≡ 8 = search rules in
    rw c.width-p.ensures
    (turn l.invariant _ _ _ c.loop-i-test.true h refl c.if-code-eq0.false refl c.read_bits-bits.ensures.0 c.put_separator-n.ensures c.put_operand-n.ensures)

pub shape_of-out : goal.shape_of-out
shape_of-out c = c.loop-i.invariant.left.same_size

pub returns : goal.returns
returns c =
    let h : length c.args.row ≡ 8 = search rules in
    ended c.loop-i.invariant c.loop-i-test.false h
