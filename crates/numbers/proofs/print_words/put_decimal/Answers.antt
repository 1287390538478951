use native.Mathlib.Numerals.{unary_clauses}
use Rattle.lists.proofs.Aheads.{as_words, ahead_front}
use Rattle.lists.proofs.Writes.{same_piece}
use Rattle.std.proofs.Common.{◌+◌, length, sym, ◌∙◌, arith, leb-true}
use Rattle.numbers.proofs.print_words.put_decimal.Goals as goal

pub put_digits-requires : goal.put_digits-requires
put_digits-requires c =
    let a = c.args in
    (c.requires, omega (arith, leb-true (a.at + 4 + 8) (length a.out.now) (sym c.has_room.ensures ∙ c.if-has_room.true)))

pub returns : goal.returns
returns c =
    let p = c.put_digits-k.ensures in
    as_words (same_piece (ahead_front p.by_words (omega (arith, p.upper_bound, p.by_words.next))) (simp unary_clauses at c.put_bytes.ensures))
