use Rattle.std.proofs.Common.{◌≡◌, get_or, sym, ap, ◌∙◌, arith}
use Rattle.spec_numbers.proofs.ParseLaws.{i32_none, i32_minus, i32_plus, i32_plain}
use Rattle.numbers.specs.Answers.{number_of}
use Rattle.numbers.proofs.parse.parse_i32.Goals as goal

pub returns-in-empty : goal.returns-in-empty
returns-in-empty c = sym (ap number_of (i32_none c.args.s.now (omega arith)))

pub returns-in-45 : goal.returns-in-45
returns-in-45 c =
    let s = c.args.s.now in
    let b : get_or s 0 0 ≡ 45 = omega arith in
    c.parse_minus.ensures ∙ sym (ap number_of (i32_minus s b))

pub returns-in-43 : goal.returns-in-43
returns-in-43 c =
    let s = c.args.s.now in
    let b : get_or s 0 0 ≡ 43 = omega arith in
    c.unsigned_value.ensures ∙ sym (ap number_of (i32_plus s b))

pub returns-in_default : goal.returns-in_default
returns-in_default c =
    let s = c.args.s.now in
    c.unsigned_value-in_default.ensures ∙ sym (ap number_of (i32_plain s (λ e. omega (arith, e)) (λ e. omega (arith, e))))
