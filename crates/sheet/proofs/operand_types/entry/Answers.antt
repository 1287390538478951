use lib.ListN.{get_or-eq_default}
use mathlib.Core.Path.{sym}
use Rattle.sheet.proofs.operand_types.entry.Goals as goal

pub returns-else-c-table : goal.returns-else-c-table
returns-else-c-table c = sym (get_or-eq_default c.args.table.now 0 c.if-c-table.false)
