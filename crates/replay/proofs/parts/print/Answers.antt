use Rattle.std.proofs.Common.{arith}
use mathlib.Core.Path.{ap, sym, ◌∙◌}
use Prim.Native.Nat.{ℕ}
use Rattle.replay.specs.Performs.{number_printed}
use Rattle.replay.proofs.PerformLaws.{was_printed, as_decimal, as_hex, as_double, as_none, of_eight, not_eight}
use Rattle.replay.proofs.parts.print.Goals as goal

pub returns-then-input-ne8 : goal.returns-then-input-ne8
returns-then-input-ne8 c = not_eight _ _ _ c.if-input-ne8.true

pub returns-in-7 : goal.returns-in-7
returns-in-7 c =
    let a = c.args in
    was_printed c.part_print_decimal.ensures c.written.ensures ∙ as_decimal _ _ _ c.in-7.is
    ∙ ap (λ (n : ℕ). number_printed a.operation n a.lent.now) c.read_le-n.ensures
    ∙ of_eight _ _ _ c.if-input-ne8.false

pub returns-in-8 : goal.returns-in-8
returns-in-8 c =
    let a = c.args in
    c.print_signed.ensures ∙ ap (λ (o : ℕ). number_printed o c.read_le-n.result a.lent.now) (sym c.in-8.is)
    ∙ ap (λ (n : ℕ). number_printed a.operation n a.lent.now) c.read_le-n.ensures
    ∙ of_eight _ _ _ c.if-input-ne8.false

pub returns-in-9 : goal.returns-in-9
returns-in-9 c =
    let a = c.args in
    was_printed c.part_print_hex4.ensures c.written-in-9.ensures ∙ as_hex _ _ _ c.in-9.is
    ∙ ap (λ (n : ℕ). number_printed a.operation n a.lent.now) c.read_le-n.ensures
    ∙ of_eight _ _ _ c.if-input-ne8.false

pub returns-in-10 : goal.returns-in-10
returns-in-10 c =
    let a = c.args in
    was_printed c.part_print_double.ensures c.written-in-10.ensures ∙ as_double _ _ _ c.in-10.is
    ∙ ap (λ (n : ℕ). number_printed a.operation n a.lent.now) c.read_le-n.ensures
    ∙ of_eight _ _ _ c.if-input-ne8.false

pub returns-in_default : goal.returns-in_default
returns-in_default c =
    as_none c.args.operation _ _ (omega arith) (omega arith) (omega arith) (omega arith) ∙ of_eight _ _ _ c.if-input-ne8.false
