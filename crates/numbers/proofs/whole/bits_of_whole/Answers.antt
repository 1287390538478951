use Rattle.numbers.proofs.PlaceLaws.{placed}
use Rattle.spec_numbers.specs.Double.{bits_of_whole, top_bit}
use Rattle.std.proofs.Common.{◌≡◌, ◌-◌, ◌*◌, ◌%◌, ◌^◌, arith, eq-eqb, ne_eqb}
use Rattle.numbers.proofs.whole.bits_of_whole.Goals as goal

pub returns-then-n-eq0 : goal.returns-then-n-eq0
unfolding bits_of_whole
returns-then-n-eq0 c = rw (eq-eqb _ _ c.if-n-eq0.true)

pub returns-then-n-eq9007199254740992 : goal.returns-then-n-eq9007199254740992
unfolding bits_of_whole
returns-then-n-eq9007199254740992 c = rw (ne_eqb _ _ c.if-n-eq0.false, eq-eqb _ _ c.if-n-eq9007199254740992.true)

pub overflow_sub-top : goal.overflow_sub-top
overflow_sub-top c = (placed c.args.n c.requires c.if-n-eq0.false c.if-n-eq9007199254740992.false).zeros

pub overflow_sub-significand : goal.overflow_sub-significand
overflow_sub-significand c = (placed c.args.n c.requires c.if-n-eq0.false c.if-n-eq9007199254740992.false).fits

pub overflow_sub-result : goal.overflow_sub-result
overflow_sub-result c = omega (arith, placed c.args.n c.requires c.if-n-eq0.false c.if-n-eq9007199254740992.false)

pub overflow_add-result-2 : goal.overflow_add-result-2
overflow_add-result-2 c = omega (arith, placed c.args.n c.requires c.if-n-eq0.false c.if-n-eq9007199254740992.false)

pub returns : goal.returns
unfolding bits_of_whole
returns c =
    let n = c.args.n in
    let m : (n * 2 ^ (52 - top_bit n)) % 2 ^ 64 ≡ n * 2 ^ (52 - top_bit n) = omega (arith, placed c.args.n c.requires c.if-n-eq0.false c.if-n-eq9007199254740992.false) in
    rw (ne_eqb _ _ c.if-n-eq0.false, ne_eqb _ _ c.if-n-eq9007199254740992.false, m)
