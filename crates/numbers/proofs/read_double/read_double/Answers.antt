use Rattle.numbers.proofs.ReadLaws.{double_infinity, double_minus_infinity, double_hex, double_whole}
use Rattle.lists.specs.Text.{text}
use Rattle.spec_numbers.specs.Double.{infinity_text, hex_mark}
use Rattle.numbers.specs.Answers.{number_of}
use Rattle.std.proofs.Common.{sym, ap, ◌∙◌}
use Rattle.numbers.proofs.read_double.read_double.Goals as goal

pub returns-then-same_bytes : goal.returns-then-same_bytes
unfolding infinity_text text
returns-then-same_bytes c =
    sym (ap number_of (double_infinity c.args.s.now (sym c.same_bytes.ensures ∙ c.if-same_bytes.true)))

pub returns-then-same_bytes-2 : goal.returns-then-same_bytes-2
unfolding infinity_text text
returns-then-same_bytes-2 c =
    let s = c.args.s.now in
    sym (ap number_of (double_minus_infinity s (sym c.same_bytes.ensures ∙ c.if-same_bytes.false) (sym c.same_bytes-2.ensures ∙ c.if-same_bytes-2.true)))

pub returns-then-opens_at : goal.returns-then-opens_at
unfolding hex_mark text infinity_text
returns-then-opens_at c =
    let w = c.same_bytes in
    let m = c.same_bytes-2 in
    c.read_hex16.ensures ∙ sym (ap number_of (double_hex _ (sym w.ensures ∙ c.if-same_bytes.false) (sym m.ensures ∙ c.if-same_bytes-2.false) (sym c.opens_at.ensures ∙ c.if-opens_at.true)))

pub returns : goal.returns
unfolding hex_mark text infinity_text
returns c =
    let w = c.same_bytes in
    let m = c.same_bytes-2 in
    c.read_whole.ensures ∙ sym (ap number_of (double_whole _ (sym w.ensures ∙ c.if-same_bytes.false) (sym m.ensures ∙ c.if-same_bytes-2.false) (sym c.opens_at.ensures ∙ c.if-opens_at.false)))
