use mathlib.Core.Path.{◌≡◌, refl}
use lib.Seq.{length-take-le}
use lib.ListN.{length, take, get_or}
use native.Mathlib.Omega.{arith}
use Rattle.spec_sheet.proofs.TypeLaws.{width_most}
use Rattle.spec_sheet.specs.Types.{width_of}
use Rattle.encode.proofs.CanonicalLaws.{four_code}
use Rattle.encode.proofs.CanonicalWrites.{start, turn, ended}
use borrow.Author.Rules.{rules}
use Rattle.encode.proofs.canonical.put_operands.Goals as goal

pub loop-j-init : goal.loop-j-init
loop-j-init c =
    let a = c.args in
    start (take 4 a.row) a.words.now a.at a.out.now a.from

pub put_eight-requires : goal.put_eight-requires
put_eight-requires c = omega (arith, c.loop-j.invariant.near, c.loop-j.invariant.same_length)

pub overflow_add-k : goal.overflow_add-k
overflow_add-k c = omega (arith, c.width_in-k.ensures, width_most (get_or c.args.row c.loop-j.j 0), c.loop-j.invariant.near, c.loop-j.invariant.same_length)

pub loop-j-preserved : goal.loop-j-preserved
loop-j-preserved c =
    let l = c.loop-j in
    let a = c.args in
    let h : length a.row ≡ 8 = search rules in
    let f : length (take 4 a.row) ≡ 4 = length-take-le 4 a.row (omega arith) in
    let w : c.width_in-k.result ≡ width_of (get_or (take 4 a.row) l.j 0) = rw (four_code a.row l.j c.loop-j-test.true) c.width_in-k.ensures in
    turn (take 4 a.row) a.words.now a.at a.out.now a.from l.out l.k l.j l.invariant (omega arith) (omega arith) c.loop-j-test.true (omega arith) _ refl _ w _ c.put_eight.ensures

pub shape_of-out : goal.shape_of-out
shape_of-out c = c.loop-j.invariant.same_length

pub returns : goal.returns
returns c =
    let l = c.loop-j in
    let a = c.args in
    let h : length a.row ≡ 8 = search rules in
    let f : length (take 4 a.row) ≡ 4 = length-take-le 4 a.row (omega arith) in
    (ended (take 4 a.row) a.words.now a.at a.out.now a.from l.out l.k l.j l.invariant (omega arith) (omega arith) (omega arith), h)
