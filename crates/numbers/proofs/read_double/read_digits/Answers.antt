use Rattle.std.proofs.Common.{◌^◌, drop, sym, ap, ◌∙◌, arith, length-drop}
use Rattle.spec_numbers.proofs.WholeLaws.{bits_below}
use Rattle.numbers.specs.Answers.{number_of}
use Rattle.numbers.proofs.AnswerLaws.{read_bound}
use Rattle.numbers.proofs.ReadLaws.{digits_many, digits_none, digits_some}
use Rattle.numbers.proofs.read_double.read_digits.Goals as goal

pub returns-then-s-from-gt16 : goal.returns-then-s-from-gt16
returns-then-s-from-gt16 c =
    let a = c.args in
    sym (ap number_of (digits_many a.sign (drop a.from a.s.now) (simp length-drop (omega arith))))

pub returns-in_err-n : goal.returns-in_err-n
returns-in_err-n c =
    let a = c.args in
    c.from_residual.ensures ∙ sym (digits_none a.sign (drop a.from a.s.now) (simp length-drop (omega arith)) (sym c.in_err-n.ensures))

pub bits_of_whole-requires : goal.bits_of_whole-requires
bits_of_whole-requires c = read_bound 10 (2 ^ 53) _ (drop c.args.from c.args.s.now) (sym c.in_ok-n.ensures)

pub overflow_add-result : goal.overflow_add-result
overflow_add-result c =
    let m = read_bound 10 (2 ^ 53) c.in_ok-n.n (drop c.args.from c.args.s.now) (sym c.in_ok-n.ensures) in
    omega (arith, c.bits_of_whole.ensures, bits_below _ m)

pub returns : goal.returns
returns c =
    let a = c.args in
    rw c.bits_of_whole.ensures (sym (digits_some a.sign (drop a.from a.s.now) (simp length-drop (omega arith)) _ (sym c.in_ok-n.ensures)))
