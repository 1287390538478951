use mathlib.Core.Path.{sym, ◌∙◌, refl}
use native.Mathlib.Omega.{arith}
use Rattle.sheet.proofs.AnswerLaws.{is_error}
use Rattle.sheet.proofs.SheetAnswers.{few_opcodes}
use Rattle.encode.proofs.EncodeAnswers.{refused, encode_read, encode_none}
use Rattle.encode.proofs.encode.encode_text.Goals as goal

pub returns-in_err-read : goal.returns-in_err-read
returns-in_err-read c =
    let a = c.args in
    rw (is_error _ c.from_residual.ensures.1) (refused (encode_none a.sheet.now a.words.now (sym c.read_sheet.ensures.value ∙ c.in_err-read.was)) refl)

pub encode_under-requires : goal.encode_under-requires
encode_under-requires c = omega (arith, few_opcodes c.args.sheet.now (sym c.read_sheet.ensures.value ∙ c.in_ok-read.was))

pub returns : goal.returns
returns c =
    let a = c.args in
    let w = c.read_sheet.ensures in
    rw (encode_read a.sheet.now a.words.now (sym w.value ∙ c.in_ok-read.was), ← w.types_after) c.encode_under.ensures
