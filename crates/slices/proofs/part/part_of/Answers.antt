use native.Mathlib.Nat.{le_refl}
use Rattle.lists.proofs.Parts.{tail_part, part_none, part_rest}
use lib.ListN.{length, drop_of_length-le}
use native.Mathlib.Omega.{arith}
use Prim.Native.Nat.{◌+◌, ◌-◌}
use mathlib.Core.Path.{◌≡◌, sym, ◌∙◌}
use Rattle.slices.proofs.part.part_of.Goals as goal

pub returns-then-len-at : goal.returns-then-len-at
returns-then-len-at c =
    let a = c.args in
    tail_part a.s.now (length a.s.now) ∙ (rw (drop_of_length-le a.s.now (le_refl (length a.s.now))) (sym (part_none a.s.now a.at a.n c.if-len-at.true)))

pub returns-then-len-at-2 : goal.returns-then-len-at-2
returns-then-len-at-2 c =
    let a = c.args in
    tail_part a.s.now a.at ∙ sym (part_rest a.s.now a.at a.n c.if-len-at-2.true)

pub returns : goal.returns
returns c =
    let a = c.args in
    let e : a.at + a.n - a.at ≡ a.n = omega arith in
    rw e
