use Rattle.sheet.proofs.LetterWords.{letters_over}
use Rattle.spec_sheet.specs.Scan.{is_name_byte}
use Rattle.lists.proofs.Scans.{run_stop}
use Rattle.lists.specs.Scan.{Bytes}
use borrow.Author.Tests.{leb-true}
use lib.ListN.{length}
use native.Mathlib.Omega.{arith}
use Prim.Native.Nat.{◌+◌, ◌<◌}
use mathlib.Core.Path.{sym, ◌∙◌, ap}
use Rattle.sheet.proofs.scan.count_name.Goals as goal

pub read_of_eight-w-requires : goal.read_of_eight-w-requires
read_of_eight-w-requires c = (leb-true (c.loop-w.i + 8) (length c.args.s.now) (sym c.has_left.ensures ∙ c.loop-w-test.true), omega arith, omega arith)

pub overflow_add-i : goal.overflow_add-i
overflow_add-i c = omega (arith, c.letters_in_front-k.ensures.0, leb-true (c.loop-w.i + 8) (length c.args.s.now) (sym c.has_left.ensures ∙ c.loop-w-test.true))

pub bounds-s-i : goal.bounds-s-i
bounds-s-i c = omega (arith, c.if-k-lt8.true, leb-true (c.loop-w.i + 8) (length c.args.s.now) (sym c.has_left.ensures ∙ c.loop-w-test.true))

pub returns-then-s-i-eq32 : goal.returns-then-s-i-eq32
unfolding is_name_byte
returns-then-s-i-eq32 c =
    let a = c.args in
    let l = c.loop-w in
    let h = leb-true (c.loop-w.i + 8) (length c.args.s.now) (sym c.has_left.ensures ∙ c.loop-w-test.true) in
    let bs : Bytes a.s.now = λ j. (c.type_inv.s j).fits in
    let k = c.letters_in_front-k in
    let e = letters_over a.s.now l.i k.result c.read_of_eight-w.result bs h c.read_of_eight-w.ensures k.ensures.0 k.ensures.1 in
    let g : l.i + k.result < length a.s.now = omega (arith, c.if-k-lt8.true, h) in
    let f = run_stop is_name_byte a.s.now (l.i + k.result) g (ap is_name_byte c.if-s-i-eq32.true) in
    (omega (arith, e, f, l.invariant.2), omega (arith, h, l.invariant.0, l.invariant.1, k.ensures.0))

pub returns-then-k-lt8 : goal.returns-then-k-lt8
returns-then-k-lt8 c =
    let a = c.args in
    let l = c.loop-w in
    let h = leb-true (c.loop-w.i + 8) (length c.args.s.now) (sym c.has_left.ensures ∙ c.loop-w-test.true) in
    let bs : Bytes a.s.now = λ j. (c.type_inv.s j).fits in
    let k = c.letters_in_front-k in
    let e = letters_over a.s.now l.i k.result c.read_of_eight-w.result bs h c.read_of_eight-w.ensures k.ensures.0 k.ensures.1 in
    (omega (arith, e, l.invariant.2, c.name_bytes_at.ensures.0), omega (arith, h, l.invariant.0, l.invariant.1, k.ensures.0, c.name_bytes_at.ensures.1))

pub loop-w-smaller : goal.loop-w-smaller
loop-w-smaller c = omega (arith, c.if-k-lt8.false, leb-true (c.loop-w.i + 8) (length c.args.s.now) (sym c.has_left.ensures ∙ c.loop-w-test.true))

pub loop-w-preserved : goal.loop-w-preserved
loop-w-preserved c =
    let a = c.args in
    let l = c.loop-w in
    let h = leb-true (c.loop-w.i + 8) (length c.args.s.now) (sym c.has_left.ensures ∙ c.loop-w-test.true) in
    let bs : Bytes a.s.now = λ j. (c.type_inv.s j).fits in
    let k = c.letters_in_front-k in
    let e = letters_over a.s.now l.i k.result c.read_of_eight-w.result bs h c.read_of_eight-w.ensures k.ensures.0 k.ensures.1 in
    (omega (arith, l.invariant.0), omega (arith, h, l.invariant.0, l.invariant.1, k.ensures.0), l.invariant.2 ∙ e)
