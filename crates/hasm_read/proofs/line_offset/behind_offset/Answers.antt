use native.Mathlib.Omega.{arith}
use mathlib.Core.Path.{sym, ◌∙◌}
use mathlib.Core.Bool.{true, false}
use Rattle.sheet.proofs.AnswerLaws.{name_told}
use Rattle.hasm_read.proofs.OffsetLaws.{no_digit, no_white, no_letter, a_name, an_offset}
use Rattle.hasm_read.proofs.line_offset.behind_offset.Goals as goal
use Rattle.hasm_read.proofs.line_offset.behind_offset.Goals.{then-k-m-via-then-k-m, then-k-m-via-else-k-m+then-not-is_white_at}

pub returns-then-k-m : goal.returns-then-k-m
returns-then-k-m c = (
  λ types bytes ends. elim c.then-k-m.branch [
    | then-k-m-via-then-k-m w ↦ no_digit _ c.args.s.now _ _ c.prefix_length-m.ensures.0 c.hex_end-k.ensures.0 w.if-k-m.true
    | then-k-m-via-else-k-m+then-not-is_white_at w ↦
        no_white _ c.args.s.now _ _ c.prefix_length-m.ensures.0 c.hex_end-k.ensures.0 (sym w.is_white_at.ensures ∙ w.if-not-is_white_at.true)
  ],
  omega arith,
)

pub returns-then-not-is_letter_at : goal.returns-then-not-is_letter_at
returns-then-not-is_letter_at c =
    (λ types bytes ends. no_letter _ c.args.s.now _ _ c.prefix_length-m.ensures.0 c.hex_end-k.ensures.0 _ c.white_end-a.ensures.0 (sym c.is_letter_at.ensures ∙ c.if-not-is_letter_at.true), omega arith)

pub returns-then-is_some : goal.returns-then-is_some
returns-then-is_some c =
    let m = name_told _ _ true c.find.ensures (sym c.is_some.ensures ∙ c.if-is_some.true) in
    (λ types bytes ends. a_name _ c.args.s.now _ _ c.prefix_length-m.ensures.0 c.hex_end-k.ensures.0 _ c.white_end-a.ensures.0 (sym m), omega arith)

pub returns-else-is_some : goal.returns-else-is_some
returns-else-is_some c =
    let m = name_told _ _ false c.find.ensures (sym c.is_some.ensures ∙ c.if-is_some.false) in
    (λ types bytes ends. an_offset _ c.args.s.now _ _ c.prefix_length-m.ensures.0 c.hex_end-k.ensures.0 _ c.white_end-a.ensures.0 c.if-k-m.false (sym c.is_white_at.ensures ∙ c.if-not-is_white_at.false) (sym m) (sym c.is_letter_at.ensures ∙ c.if-not-is_letter_at.false), c.white_end-a.ensures.1)
