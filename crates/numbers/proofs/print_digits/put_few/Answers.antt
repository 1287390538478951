use Rattle.std.proofs.Common.{ℕ, [], ◌∷◌, sym, ap, ◌∙◌, arith}
use Rattle.lists.proofs.Writes.{same_piece}
use Rattle.numbers.proofs.BaseTurns.{one_of, both_of}
use Rattle.numbers.proofs.print_digits.put_few.Goals as goal

pub returns-then-n : goal.returns-then-n
returns-then-n g c fuel h l =
    same_piece (ap (λ (d : ℕ). d ∷ []) c.digit_char.ensures ∙ sym (one_of _ _ (omega arith) fuel _ h c.if-n.true)) c.put_byte.ensures

pub returns : goal.returns
returns g c fuel h l = same_piece (sym (both_of _ _ (omega arith) fuel h _ l c.if-n.false c.requires.2)) c.put_two.ensures
