use native.Mathlib.Omega.{arith}
use Rattle.lists.proofs.Aheads.{same_ahead, ◌and_words◌}
use Rattle.sheet.specs.Families.{family_number}
use Rattle.listing.specs.Numbers.{front_text, value_text}
use Rattle.listing.proofs.OperandLaws.{signed_behind}
use Rattle.listing.proofs.operand_text.put_number.Goals as goal

pub put_word-a-requires : goal.put_word-a-requires
put_word-a-requires c = omega (arith, c.front_size.ensures.1)

pub returns : goal.returns
unfolding value_text
returns c =
    let p = same_ahead {t = front_text (family_number c.args.family)} (rw c.front_size.ensures.0 c.front_byte.ensures) c.put_word-a.ensures in
    p and_words (rw (c.is_signed.ensures, signed_behind c.args.family c.requires.1) at c.put_signed.ensures)
