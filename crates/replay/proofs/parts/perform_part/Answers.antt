use Rattle.std.proofs.Common.{arith}
use mathlib.Core.Path.{ap, ◌∙◌}
use Rattle.desk_parts.specs.declared.PartNumber.{PartNumber}
use Rattle.replay.specs.Performs.{valued}
use Rattle.replay.proofs.PerformLaws.{was_printed, reads_u32, reads_hex, reads_i32, reads_double, escapes, unescapes, prints}
use Rattle.replay.proofs.parts.perform_part.Goals as goal

pub returns-in-3 : goal.returns-in-3
returns-in-3 c =
    let a = c.args in
    c.value_read.ensures ∙ ap (λ (n : PartNumber). valued n a.lent.now) c.part_parse_u32.ensures ∙ reads_u32 _ _ _ c.in-3.is

pub returns-in-4 : goal.returns-in-4
returns-in-4 c =
    let a = c.args in
    c.value_read-in-4.ensures ∙ ap (λ (n : PartNumber). valued n a.lent.now) c.part_parse_hex.ensures ∙ reads_hex _ _ _ c.in-4.is

pub returns-in-5 : goal.returns-in-5
returns-in-5 c =
    let a = c.args in
    c.value_read-in-5.ensures ∙ ap (λ (n : PartNumber). valued n a.lent.now) c.part_parse_i32.ensures ∙ reads_i32 _ _ _ c.in-5.is

pub returns-in-6 : goal.returns-in-6
returns-in-6 c =
    let a = c.args in
    c.value_read-in-6.ensures ∙ ap (λ (n : PartNumber). valued n a.lent.now) c.part_parse_double.ensures ∙ reads_double _ _ _ c.in-6.is

pub returns-in-11 : goal.returns-in-11
returns-in-11 c =
    was_printed c.part_escape.ensures c.written.ensures ∙ escapes _ _ _ c.in-11.is

pub returns-in-12 : goal.returns-in-12
returns-in-12 c =
    was_printed c.part_unescape.ensures c.written-in-12.ensures ∙ unescapes _ _ _ c.in-12.is

pub returns-in_default : goal.returns-in_default
returns-in_default c =
    c.print.ensures ∙ prints c.args.operation _ _ (omega arith) (omega arith) (omega arith) (omega arith) (omega arith) (omega arith)
