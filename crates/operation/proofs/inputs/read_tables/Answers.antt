use mathlib.Core.Path.{sym}
use Rattle.sheet.proofs.AnswerLaws.{is_error}
use Rattle.operation.proofs.UnderLaws.{was_read, was_malformed}
use Rattle.operation.proofs.inputs.read_tables.Goals as goal

pub returns-in_err-read : goal.returns-in_err-read
returns-in_err-read c =
    let s = c.in_err-read.ensures in
    rw (is_error _ c.from_residual.ensures.1) (was_malformed c.args.sheet.now _ _ _ _ s.types_after s.ops_after (sym s.value))

pub returns : goal.returns
returns c = let s = c.in_ok-read.ensures in was_read c.args.sheet.now _ _ _ _ s.types_after s.ops_after (sym s.value)
