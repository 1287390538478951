use Rattle.listing.proofs.OperandLaws.{short_bits, number_small, of_number, of_string, of_none, of_double}
use Rattle.sheet.specs.Families.{family_number}
use Rattle.lists.proofs.Aheads.{as_words, same_ahead}
use native.Mathlib.Omega.{arith}
use mathlib.Core.Bool.{false}
use Rattle.listing.proofs.operand_text.put_operand.Goals as goal

pub put_string-requires : goal.put_string-requires
unfolding family_number
put_string-requires c = short_bits c.args.code c.args.bits (omega (arith, c.in-Str.ensures)) c.requires.1

pub returns-in-Str : goal.returns-in-Str
unfolding family_number
returns-in-Str c = same_ahead (of_string _ _ _ _ _ _ c.in-Str.ensures) c.put_string.ensures

pub returns-in-NoOperand : goal.returns-in-NoOperand
unfolding family_number
returns-in-NoOperand c = same_ahead (of_none _ _ _ _ _ _ c.in-NoOperand.ensures) (as_words c.put_double.ensures)

pub returns-in-Double : goal.returns-in-Double
unfolding family_number
returns-in-Double c = same_ahead (of_double _ _ _ _ _ _ c.in-Double.ensures) (as_words c.put_double-in-Double.ensures)

pub number_of-requires : goal.number_of-requires
number_of-requires c =
    let a = c.args in
    let d = c.in_default in
    let e = c.family-family.ensures in
    let l = number_small false a.lister.now.strings.bytes.now a.lister.now.strings.ends.now a.at a.code a.bits c.family-family.result e d.not-Str d.not-NoOperand d.not-Double in
    (c.requires.0, e, c.requires.1, short_bits a.code a.bits l c.requires.1)

pub put_number-requires : goal.put_number-requires
put_number-requires c = (c.number_of.ensures.1, c.in_default.not-Double)

pub returns-in_default : goal.returns-in_default
returns-in_default c =
    let d = c.in_default in
    same_ahead (rw c.number_of.ensures.0 (of_number _ _ _ _ _ _ c.family-family.result c.family-family.ensures d.not-Str d.not-NoOperand d.not-Double)) c.put_number.ensures
