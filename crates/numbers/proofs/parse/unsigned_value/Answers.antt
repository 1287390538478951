use Rattle.std.proofs.Common.{◌≡◌, ◌-◌, length, take, drop, sym, ap, ◌∙◌, arith, length-drop}
use Rattle.std.proofs.Math.Seq.{take-length}
use Rattle.spec_numbers.proofs.ParseLaws.{unsigned_none, unsigned_some}
use Rattle.numbers.specs.Answers.{number_of}
use Rattle.numbers.proofs.parse.unsigned_value.Goals as goal

pub returns-then-s-from : goal.returns-then-s-from
returns-then-s-from c =
    let a = c.args in
    sym (ap number_of (unsigned_none a.base a.most (drop a.from a.s.now) (simp length-drop (omega arith))))

pub returns : goal.returns
returns c =
    let a = c.args in
    let rest : take (length a.s.now - a.from) (drop a.from a.s.now) ≡ drop a.from a.s.now = rw (sym (length-drop a.from a.s.now)) (take-length (drop a.from a.s.now)) in
    (rw rest at c.parse_digits.ensures)
    ∙ sym (ap number_of (unsigned_some a.base a.most (drop a.from a.s.now) (simp length-drop (omega arith))))
