use Rattle.std.proofs.Common.{◌≤◌, ◌<◌, arith, eq-eqb, ne_eqb, le-leb}
use borrow.Author.Tests.{lt-leb}
use Rattle.spec_sheet.specs.Types.{family_of}
use Rattle.spec_body.specs.Encode.{encode_operand}
use Rattle.operand.specs.Write.{write_operand}
use Rattle.operand.proofs.WriteLaws.{family_low, family_high}
use Rattle.operand.proofs.write.write_operand.Goals as goal

pub returns-in-NoOperand : goal.returns-in-NoOperand
unfolding write_operand encode_operand
returns-in-NoOperand c =
    let a = c.args in
    let h : family_of a.code ≤ 3 = family_low _ _ c.family.ensures c.in-NoOperand.is in
    rw (le-leb (family_of a.code) 3 h) (c.encode_unsigned.ensures a.beside)

pub returns-in-9 : goal.returns-in-9
unfolding write_operand encode_operand
returns-in-9 c =
    let a = c.args in
    let d = c.in_default in
    let h : 3 < family_of a.code = family_high _ _ c.family.ensures d.not-NoOperand d.not-Reg d.not-UInt d.not-Str in
    rw (lt-leb (family_of a.code) 3 h, eq-eqb a.code 9 c.in-9.is) (c.encode_addr8.ensures a.beside)

pub returns-in-12 : goal.returns-in-12
unfolding write_operand encode_operand
returns-in-12 c =
    let a = c.args in
    let d = c.in_default in
    let h : 3 < family_of a.code = family_high _ _ c.family.ensures d.not-NoOperand d.not-Reg d.not-UInt d.not-Str in
    rw (lt-leb (family_of a.code) 3 h, ne_eqb a.code 9 (λ e. omega (arith, e, c.in-12.is)), eq-eqb a.code 12 c.in-12.is) c.encode_double.ensures

pub returns-in_default-code : goal.returns-in_default-code
unfolding write_operand encode_operand
returns-in_default-code c =
    let a = c.args in
    let d = c.in_default in
    let h : 3 < family_of a.code = family_high _ _ c.family.ensures d.not-NoOperand d.not-Reg d.not-UInt d.not-Str in
    rw (lt-leb (family_of a.code) 3 h, ne_eqb a.code 9 (λ e. omega (arith, e)), ne_eqb a.code 12 (λ e. omega (arith, e))) (c.encode_signed32.ensures a.beside)
