use mathlib.Core.Path.{◌≡◌, refl}
use mathlib.Core.Logic.{⊎_elim}
use native.Mathlib.Omega.{arith}
use Rattle.carry.proofs.new_bits.numbers_of.Goals as goal

pub returns-then-w-eq1 : goal.returns-then-w-eq1
returns-then-w-eq1 c = rw c.if-w-eq1.true (refl, refl, refl, omega arith)

pub returns : goal.returns
returns c =
    let e : c.args.w ≡ 4 = ⊎_elim (λ e. absurd (c.if-w-eq1.false e)) (λ e. e) c.requires in
    rw e (refl, refl, refl, omega arith)
