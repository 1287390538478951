use Rattle.encode.proofs.OperandsLoop.{start, ended, stops, refuses, turn}
use Rattle.encode.proofs.ShapeLaws.{shape_pair}
use Rattle.operand.proofs.WriteLaws.{fitted_bits, fitted_misfit, pair_kind, value_encoded}
use Rattle.operand.specs.Write.{fitted_of}
use Rattle.lists.proofs.Writes.{kept_length}
use lib.ListN.{length}
use Prim.Native.Nat.{◌*◌}
use native.Mathlib.Omega.{arith}
use mathlib.Core.Path.{◌≡◌, refl, ap, sym, ◌∙◌}
use borrow.Author.Rules.{rules}
use Rattle.encode.proofs.record_operands.encode_operands.Goals as goal

pub loop-j-init : goal.loop-j-init
loop-j-init c =
    let a = c.args in
    start a.row a.words.now (20 * a.i) a.out.now a.from (omega arith) (omega arith)

pub shape_of-out-then-c-eq0 : goal.shape_of-out-then-c-eq0
shape_of-out-then-c-eq0 c = kept_length c.loop-j.invariant.wrote

pub returns-then-c-eq0 : goal.returns-then-c-eq0
returns-then-c-eq0 c =
    let l = c.loop-j in
    let a = c.args in
    let h : length a.row ≡ 8 = search rules in
    stops a.i a.row _ _ _ _ _ _ _ l.invariant (omega arith) c.loop-j-test.true c.if-c-eq0.true

pub overflow_cast-words : goal.overflow_cast-words
overflow_cast-words c =
    omega (arith, pair_kind _ _ (shape_pair c.args.words.now (20 * c.args.i) c.loop-j.j _ refl c.loop-j-test.true c.requires.1))

pub shape_of-out-in_default : goal.shape_of-out-in_default
shape_of-out-in_default c = kept_length c.loop-j.invariant.wrote

pub returns-in_default : goal.returns-in_default
returns-in_default c =
    let l = c.loop-j in
    let t = c.loop-j-test.true in
    let h : length c.args.row ≡ 8 = search rules in
    let e = value_encoded _ _ _ _ (shape_pair c.args.words.now (20 * c.args.i) l.j _ refl t c.requires.1) c.value_of-value.ensures in
    refuses c.args.i c.args.row _ _ _ _ _ _ _ l.invariant (omega arith) t c.if-c-eq0.false _ refl _ (fitted_misfit _ (sym (c.write_operand.ensures ∙ ap fitted_of e) ∙ c.in_default.is))

pub loop-j-preserved : goal.loop-j-preserved
loop-j-preserved c =
    let l = c.loop-j in
    let t = c.loop-j-test.true in
    let h : length c.args.row ≡ 8 = search rules in
    let e = value_encoded _ _ _ _ (shape_pair c.args.words.now (20 * c.args.i) l.j _ refl t c.requires.1) c.value_of-value.ensures in
    turn c.args.i c.args.row _ _ _ _ _ _ _ l.invariant (omega arith) t c.if-c-eq0.false _ refl _ _ _ _
    (fitted_bits _ _ (sym (c.write_operand.ensures ∙ ap fitted_of e) ∙ c.in-Some.is)) c.width.ensures c.put_le-k.ensures

pub shape_of-out : goal.shape_of-out
shape_of-out c = kept_length c.loop-j.invariant.wrote

pub returns : goal.returns
returns c =
    let l = c.loop-j in
    let a = c.args in
    let h : length a.row ≡ 8 = search rules in
    ended a.i a.row _ _ _ _ _ _ _ l.invariant (omega arith)
