use Rattle.std.proofs.Common.{◌≡◌, get_or, sym, ap, ◌∙◌, arith}
use Rattle.numbers.specs.Answers.{number_of}
use Rattle.numbers.proofs.ReadLaws.{whole_empty, whole_minus, whole_plus, whole_plain}
use Rattle.numbers.proofs.read_double.read_whole.Goals as goal

pub returns-in-empty : goal.returns-in-empty
returns-in-empty c = sym (ap number_of (whole_empty c.args.s.now (omega arith)))

pub returns-in-45 : goal.returns-in-45
returns-in-45 c =
    let s = c.args.s.now in
    let b : get_or s 0 0 ≡ 45 = omega arith in
    c.read_digits.ensures ∙ sym (ap number_of (whole_minus s b))

pub returns-in-43 : goal.returns-in-43
returns-in-43 c =
    let s = c.args.s.now in
    let b : get_or s 0 0 ≡ 43 = omega arith in
    c.read_digits-in-43.ensures ∙ sym (ap number_of (whole_plus s (λ e. omega (arith, e)) b))

pub returns-in_default : goal.returns-in_default
returns-in_default c =
    let s = c.args.s.now in
    c.read_digits-in_default.ensures ∙ sym (ap number_of (whole_plain s (λ e. omega (arith, e)) (λ e. omega (arith, e))))
