use mir.Syntax.{w8, w32}
use mir.Val.{to_z, of_z}
use mathlib.Core.Path.{◌≡◌, ◌∙◌}
use Rattle.numbers.proofs.WidthLaws.{unsigned_bits}
use Rattle.operand.specs.Value.{bits_of_value}
use borrow.Author.Rules.{rules}
use Rattle.operand.proofs.value.bits_of.Goals as goal

pub returns-in-U8 : goal.returns-in-U8
unfolding bits_of_value
returns-in-U8 c = rw c.in-U8.is

pub returns-in-U16 : goal.returns-in-U16
unfolding bits_of_value
returns-in-U16 c = rw c.in-U16.is

pub returns-in-U32 : goal.returns-in-U32
unfolding bits_of_value
returns-in-U32 c = rw c.in-U32.is

pub returns-in-I8 : goal.returns-in-I8
unfolding bits_of_value
returns-in-I8 c =
    let z = c.in-I8.x in
    let e : to_z w8 (of_z w8 z) ≡ z = search rules in
    rw c.in-I8.is (rw e at c.cast_unsigned.ensures ∙ unsigned_bits w8 z)

pub returns-in-I32 : goal.returns-in-I32
unfolding bits_of_value
returns-in-I32 c =
    let z = c.in-I32.x in
    let e : to_z w32 (of_z w32 z) ≡ z = search rules in
    rw c.in-I32.is (rw e at c.cast_unsigned-in-I32.ensures ∙ unsigned_bits w32 z)

pub returns-in-F64 : goal.returns-in-F64
unfolding bits_of_value
returns-in-F64 c = rw c.in-F64.is
