use mathlib.Core.Path.{refl}
use native.Mathlib.Omega.{arith}
use Rattle.lists.proofs.Aheads.{ahead_length}
use Rattle.sheet.proofs.AnswerLaws.{is_error}
use Rattle.encode.proofs.RecordsLoop.{start, turn, stops, cut, ended}
use borrow.Author.Rules.{rules}
use Rattle.encode.proofs.encode.encode_records.Goals as goal

pub loop-i-init : goal.loop-i-init
loop-i-init c =
    let a = c.args in
    start a.types.now a.last a.words.now a.out.now (omega arith)

pub shape_of-out-in_err-k : goal.shape_of-out-in_err-k
shape_of-out-in_err-k c =
    let e = ahead_length c.loop-i.invariant.wrote in
    search rules

pub returns-in_err-k : goal.returns-in_err-k
returns-in_err-k c =
    let l = c.loop-i in
    stops _ _ _ _ _ _ _ l.invariant c.loop-i-test.true _ refl _ _ c.encode_record.ensures _ c.in_err-k.was (is_error _ c.from_residual.ensures.1)

pub loop-i-preserved : goal.loop-i-preserved
loop-i-preserved c =
    let l = c.loop-i in
    turn _ _ _ _ _ _ _ l.invariant c.loop-i-test.true _ refl _ _ c.encode_record.ensures _ c.in_ok-k.was

pub shape_of-out-then-words-ne0 : goal.shape_of-out-then-words-ne0
shape_of-out-then-words-ne0 c = ahead_length c.loop-i.invariant.wrote

pub returns-then-words-ne0 : goal.returns-then-words-ne0
returns-then-words-ne0 c = cut _ _ _ _ _ _ _ c.loop-i.invariant c.loop-i-test.false _ refl c.if-words-ne0.true

pub shape_of-out : goal.shape_of-out
shape_of-out c = ahead_length c.loop-i.invariant.wrote

pub returns : goal.returns
returns c = ended _ _ _ _ _ _ _ c.loop-i.invariant c.loop-i-test.false c.if-words-ne0.false
