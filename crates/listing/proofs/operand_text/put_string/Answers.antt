use native.Mathlib.Omega.{arith}
use mathlib.Core.Path.{sym, ◌∙◌}
use Rattle.listing.proofs.OperandLaws.{id_quoted, id_missing, id_hidden}
use Rattle.lists.proofs.Aheads.{as_words, same_ahead}
use Rattle.listing.proofs.operand_text.put_string.Goals as goal

pub put_decimal-requires : goal.put_decimal-requires
put_decimal-requires c = omega (arith, c.requires)

pub returns-in_default : goal.returns-in_default
returns-in_default c =
    let s = c.args.lister.now.strings in
    same_ahead (rw c.if-lister.true (id_missing s.bytes.now s.ends.now c.args.id (sym c.string_at.ensures ∙ c.in_default.is))) c.put_decimal.ensures

pub returns-then-lister : goal.returns-then-lister
returns-then-lister c =
    let s = c.args.lister.now.strings in
    same_ahead (rw (c.if-lister.true, c.part.ensures) (id_quoted s.bytes.now s.ends.now c.args.id _ (sym c.string_at.ensures ∙ c.in-Some.is))) (as_words c.put_quoted.ensures)

pub put_decimal-requires-2 : goal.put_decimal-requires-2
put_decimal-requires-2 c = omega (arith, c.requires)

pub returns : goal.returns
returns c =
    let s = c.args.lister.now.strings in
    same_ahead (rw c.if-lister.false (id_hidden s.bytes.now s.ends.now c.args.id)) c.put_decimal-2.ensures
