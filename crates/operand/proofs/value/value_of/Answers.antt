use Rattle.operand.specs.declared.value.OperandValue.TheVariants.{I8, I32, F64}
use borrow.Author.Tests.{ne_eqb}
use native.Mathlib.Omega.{arith}
use mir.Syntax.{w8, w32}
use mir.Val.{to_z, of_z}
use mathlib.Core.Path.{◌≡◌, ap, ◌∙◌}
use Rattle.numbers.proofs.WidthLaws.{signed_bits}
use borrow.Author.Rules.{rules}
use Rattle.operand.proofs.value.value_of.Goals as goal

pub returns-in-0 : goal.returns-in-0
returns-in-0 c = rw c.in-0.is

pub returns-in-1 : goal.returns-in-1
returns-in-1 c = rw c.in-1.is

pub returns-in-2 : goal.returns-in-2
returns-in-2 c = rw c.in-2.is

pub returns-in-3 : goal.returns-in-3
returns-in-3 c =
    let e : to_z w8 (of_z w8 c.as_i8.result) ≡ c.as_i8.result = search rules in
    rw (c.in-3.is, e) (ap I8 c.as_i8.ensures)

pub returns-in-4 : goal.returns-in-4
returns-in-4 c =
    let e : to_z w32 (of_z w32 c.cast_signed.result) ≡ c.cast_signed.result = search rules in
    rw (c.in-4.is, e) (ap I32 (c.cast_signed.ensures ∙ signed_bits w32 _))

pub returns-in_default : goal.returns-in_default
returns-in_default c =
    let k = c.args.kind in
    simp (ne_eqb k 0 (λ e. omega (arith, e)), ne_eqb k 1 (λ e. omega (arith, e)), ne_eqb k 2 (λ e. omega (arith, e)), ne_eqb k 3 (λ e. omega (arith, e)), ne_eqb k 4 (λ e. omega (arith, e))) (ap F64 c.double_of.ensures)
