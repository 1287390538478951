use mathlib.Core.Path.{ap, sym, ◌∙◌}
use Prim.Native.Nat.{ℕ, ◌<◌, ◌^◌}
use native.Mathlib.Omega.{arith}
use Rattle.lists.proofs.Writes.{wrote_none, same_piece}
use Rattle.operand.specs.Value.{value_of}
use Rattle.operand.proofs.WriteLaws.{fitted_bits, fitted_misfit, written_low, written_none}
use borrow.Author.Rules.{rules}
use Rattle.operand.proofs.write.put_value.Goals as goal

pub returns-in_default : goal.returns-in_default
returns-in_default c =
    let a = c.args in
    let v = c.value_of-value.ensures ∙ ap (λ (k : ℕ). value_of k a.bits) c.kind.ensures in
    let m : a.bits < 2 ^ 64 = omega arith in
    let f = fitted_misfit _ (sym c.in_default.ensures) in
    same_piece (sym (written_none a.code a.bits _ m v f)) (wrote_none (search rules) (omega arith))

pub returns : goal.returns
returns c =
    let a = c.args in
    let v = c.value_of-value.ensures ∙ ap (λ (k : ℕ). value_of k a.bits) c.kind.ensures in
    let m : a.bits < 2 ^ 64 = omega arith in
    let f = fitted_bits _ _ (sym c.in-Some.ensures) in
    same_piece (written_low a.code a.bits _ m v _ f) (rw c.width.ensures at c.put_le.ensures)
