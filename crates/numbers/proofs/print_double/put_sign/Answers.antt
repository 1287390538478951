use Rattle.lists.proofs.Writes.{same_piece, wrote_none}
use Rattle.spec_numbers.specs.Double.{sign_text}
use Rattle.std.proofs.Common.{sym, arith, eq-eqb, ne_eqb}
use Rattle.numbers.proofs.print_double.put_sign.Goals as goal

pub returns-then-sign-eq0 : goal.returns-then-sign-eq0
unfolding sign_text
returns-then-sign-eq0 c = same_piece (sym (rw (eq-eqb _ _ c.if-sign-eq0.true))) (wrote_none (omega arith) (omega arith))

pub returns : goal.returns
unfolding sign_text
returns c =
    same_piece (sym (rw (ne_eqb _ _ c.if-sign-eq0.false))) c.put_byte.ensures
