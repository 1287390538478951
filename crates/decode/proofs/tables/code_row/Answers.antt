use native.Mathlib.Omega.{arith}
use Rattle.spec_sheet.proofs.TypeLaws.{width_most}
use Rattle.decode.proofs.tables.code_row.Goals as goal

pub overflow_cast-width : goal.overflow_cast-width
overflow_cast-width c = omega (arith, c.width-width.ensures, width_most c.args.code)
