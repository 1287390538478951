use mathlib.Core.Path.{refl, sym, ◌∙◌}
use Rattle.job.specs.HexAnswers.Lined.{no_line}
use Rattle.sheet.proofs.AnswerLaws.{was_place, was_no_place}
use Rattle.spec_job.proofs.TableLaws.{keyed_hex, keyed_off}
use Rattle.job.proofs.hex.keyed_hex_at.Goals as goal

pub returns-in_err-behind : goal.returns-in_err-behind
returns-in_err-behind c =
    let a = c.args in
    rw c.from_residual.ensures (no_line (keyed_off a.key.now a.s.now a.at (was_no_place _ (sym c.literal_at.ensures ∙ c.in_err-behind.was))) refl)

pub returns : goal.returns
returns c =
    let a = c.args in
    rw (keyed_hex a.key.now a.s.now a.at _ _ (was_place _ (sym c.literal_at.ensures ∙ c.in_ok-behind.was)).is_next) c.hex_at.ensures
