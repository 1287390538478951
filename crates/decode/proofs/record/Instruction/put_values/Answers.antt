use mathlib.Core.Path.{◌≡◌, refl, ap, ◌∙◌}
use native.Mathlib.Omega.{arith}
use lib.ListN.{length, get_or}
use Rattle.operand.specs.Value.{kind_in}
use Rattle.operand.proofs.ValueLaws.{operand_kind, read_bits, read_next}
use Rattle.decode.proofs.OperandLoop.{start, kept_length, operand_inside, turn, ended}
use borrow.Author.Rules.{rules}
use Rattle.decode.proofs.record.Instruction.put_values.Goals as goal

pub loop-i-init : goal.loop-i-init
loop-i-init c = start _ _ _ _ _

pub read_operand-o-requires : goal.read_operand-o-requires
read_operand-o-requires c =
    let h : length c.args.self.now.row ≡ 8 = search rules in
    operand_inside _ _ _ _ _ h c.requires _ _ _ c.loop-i.invariant c.args.self.now.whole c.loop-i-test.true

pub put_pair-requires : goal.put_pair-requires
put_pair-requires c =
    let h : length c.args.self.now.row ≡ 8 = search rules in
    omega (arith, c.requires, kept_length _ _ _ _ _ h c.requires _ _ _ c.loop-i.invariant)

pub loop-i-preserved : goal.loop-i-preserved
loop-i-preserved c =
    let l = c.loop-i in
    let h : length c.args.self.now.row ≡ 8 = search rules in
    let s = c.args.self.now.body.now in
    let code = get_or c.args.self.now.row l.i 0 in
    let o = c.read_operand-o.ensures in
    let k = c.wide_byte.ensures.0 ∙ (c.kind_of-kind.ensures ∙ (ap kind_in o.0 ∙ operand_kind code s l.p)) in
    let q = c.bits_of-bits.ensures in
    rw (c.put_pair.ensures, read_next code s l.p _ _ o.0 o.1 q)
    (turn _ s _ _ _ h c.requires _ _ _ l.invariant _ _ _ c.loop-i-test.true k (read_bits code s l.p _ _ o.0 o.1 q) refl)

pub shape_of-out : goal.shape_of-out
shape_of-out c =
    let h : length c.args.self.now.row ≡ 8 = search rules in
    kept_length _ _ _ _ _ h c.requires _ _ _ c.loop-i.invariant

pub returns : goal.returns
returns c =
    let h : length c.args.self.now.row ≡ 8 = search rules in
    ended _ _ _ _ _ h c.requires _ _ _ c.loop-i.invariant c.loop-i-test.false
