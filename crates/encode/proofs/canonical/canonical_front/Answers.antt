use mathlib.Core.Path.{◌≡◌, refl, sym, ◌∙◌}
use lib.Seq.{length-take-le}
use lib.ListN.{length, take, drop_of_length-le}
use Prim.Native.Nat.{◌≤◌}
use native.Mathlib.Omega.{arith}
use Rattle.encode.proofs.CanonicalLaws.{four_code, pair_canonical, pair_other}
use Rattle.encode.specs.Canonical.{canonical_pairs}
use borrow.Author.Rules.{rules}
use Rattle.encode.proofs.canonical.canonical_front.Goals as goal

pub loop-j-init : goal.loop-j-init
loop-j-init c = (omega arith, refl)

pub loop-j-preserved : goal.loop-j-preserved
loop-j-preserved c =
    let l = c.loop-j in
    let a = c.args in
    let h : length a.row ≡ 8 = search rules in
    let f : length (take 4 a.row) ≡ 4 = length-take-le 4 a.row (omega arith) in
    (omega arith, l.invariant.1 ∙ pair_canonical (take 4 a.row) a.words.now a.at l.j _ refl (omega arith) (omega arith) (rw (four_code a.row l.j c.loop-j-test.true) (sym c.canonical_pair.ensures ∙ c.if-not-canonical_pair.false)))

pub returns-then-not-canonical_pair : goal.returns-then-not-canonical_pair
returns-then-not-canonical_pair c =
    let l = c.loop-j in
    let a = c.args in
    let h : length a.row ≡ 8 = search rules in
    let f : length (take 4 a.row) ≡ 4 = length-take-le 4 a.row (omega arith) in
    sym (l.invariant.1 ∙ pair_other (take 4 a.row) a.words.now a.at l.j _ refl (omega arith) (omega arith) (rw (four_code a.row l.j c.loop-j-test.true) (sym c.canonical_pair.ensures ∙ c.if-not-canonical_pair.true)))

pub returns : goal.returns
unfolding canonical_pairs
returns c =
    let l = c.loop-j in
    let a = c.args in
    let h : length a.row ≡ 8 = search rules in
    let f : length (take 4 a.row) ≡ 4 = length-take-le 4 a.row (omega arith) in
    let g : length (take 4 a.row) ≤ l.j = omega arith in
    sym (l.invariant.1 ∙ rw (drop_of_length-le (take 4 a.row) g))
