use Rattle.std.proofs.Common.{◌≡◌, get_or, sym, ap, ◌∙◌, arith}
use Rattle.spec_numbers.proofs.ParseLaws.{u32_none, u32_plus, u32_plain}
use Rattle.numbers.specs.Answers.{number_of}
use Rattle.numbers.proofs.parse.parse_u32_in.Goals as goal

pub returns-in-empty : goal.returns-in-empty
returns-in-empty g c = sym (ap number_of (u32_none g.row.BASE c.args.s.now (omega arith)))

pub returns-in-43 : goal.returns-in-43
returns-in-43 g c =
    let a = c.args in
    let b : get_or a.s.now 0 0 ≡ 43 = omega arith in
    c.unsigned_value.ensures ∙ sym (ap number_of (u32_plus g.row.BASE a.s.now b))

pub returns-in_default : goal.returns-in_default
returns-in_default g c =
    let a = c.args in
    c.unsigned_value-in_default.ensures ∙ sym (ap number_of (u32_plain g.row.BASE a.s.now (λ e. omega (arith, e))))
