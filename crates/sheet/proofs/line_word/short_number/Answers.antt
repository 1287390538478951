use mathlib.Core.Path.{◌≡◌, sym, ◌∙◌}
use Prim.Native.Nat.{◌+◌, ◌-◌, ◌*◌, ◌<◌}
use native.Mathlib.Omega.{arith}
use lib.ListN.{get_or}
use Rattle.sheet.proofs.ShortNumbers.{start, turn, short_read}
use Rattle.sheet.proofs.line_word.short_number.Goals.{else-this-gt1-via-then-this-gt1+else-s-at-eq48, else-this-gt1-via-else-this-gt1}
use Rattle.sheet.proofs.line_word.short_number.Goals as goal

pub loop-i-init : goal.loop-i-init
loop-i-init g c = start _ _ _

pub overflow_mul-n : goal.overflow_mul-n
overflow_mul-n g c = omega (arith, c.loop-i.invariant.small)

pub overflow_add-n : goal.overflow_add-n
overflow_add-n g c = omega (arith, c.loop-i.invariant.small, c.wide_byte.ensures)

pub loop-i-preserved : goal.loop-i-preserved
loop-i-preserved g c =
    let e : c.loop-i.n * 10 + (c.wide_byte.result - 48) ≡ c.loop-i.n * 10 + (get_or c.args.s.now (c.args.at + c.loop-i.i) 0 - 48) = omega (arith, c.wide_byte.ensures) in
    turn _ _ _ c.requires.2 _ _ _ c.loop-i.invariant c.loop-i-test.true (sym c.is_within.ensures ∙ c.if-not-is_within.false) e c.if-n-gt255.false

pub returns : goal.returns
returns g c =
    let a = c.args in
    let z : 1 < g.row.N → get_or a.s.now a.at 0 ≡ 48 → ⊥ =
    elim c.else-this-gt1.branch [
      | else-this-gt1-via-then-this-gt1+else-s-at-eq48 w ↦ λ h. w.if-s-at-eq48.false
      | else-this-gt1-via-else-this-gt1 w ↦ λ h. absurd (omega (arith, h, w.if-this-gt1.false))
    ] in
    let l = c.loop-i in
    let e : l.i ≡ g.row.N = omega arith in
    (short_read a.s.now a.at g.row.N c.requires.2 l.n c.requires.3 c.requires.0 (rw e at l.invariant) z, omega arith)
