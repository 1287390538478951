use Rattle.operand.proofs.ValueLaws.{read_bits, read_below}
use Rattle.list_labels.proofs.TargetLaws.{kept_noted, negative_noted, other_noted}
use mathlib.Core.Path.{sym, ◌∙◌}
use borrow.Author.Tests.{eqb-true, eqb-false}
use borrow.Author.Rules.{rules}
use Rattle.list_labels.proofs.instruction_labels.note_target.Goals as goal

pub target_of-target-requires : goal.target_of-target-requires
target_of-target-requires c =
    let a = c.args in
    let o = c.read_operand-o.ensures in
    (search rules, eqb-true _ 4 (sym c.is_addr.ensures ∙ c.if-is_addr.true), read_below a.code a.s.now a.p _ _ o.0 o.1 c.bits_of-bits.ensures)

pub returns-then-target-lt2147483648 : goal.returns-then-target-lt2147483648
returns-then-target-lt2147483648 c =
    let a = c.args in
    let o = c.read_operand-o.ensures in
    kept_noted _ a.s.now a.p _ _ _ _ (read_bits a.code a.s.now a.p _ _ o.0 o.1 c.bits_of-bits.ensures) c.target_of-target.ensures (eqb-true _ 4 (sym c.is_addr.ensures ∙ c.if-is_addr.true)) _ c.if-target-lt2147483648.true c.note.ensures

pub returns-then-is_addr : goal.returns-then-is_addr
returns-then-is_addr c =
    let a = c.args in
    let o = c.read_operand-o.ensures in
    negative_noted _ a.s.now a.p _ _ _ _ (read_bits a.code a.s.now a.p _ _ o.0 o.1 c.bits_of-bits.ensures) c.target_of-target.ensures (eqb-true _ 4 (sym c.is_addr.ensures ∙ c.if-is_addr.true)) c.if-target-lt2147483648.false

pub returns : goal.returns
returns c = other_noted _ _ _ _ (eqb-false _ 4 (sym c.is_addr.ensures ∙ c.if-is_addr.false))
