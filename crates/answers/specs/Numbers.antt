-- The four numbers of a report, as a C function returns them. Assumes nothing.
use Rattle.answers.specs.Report.{Report}
use Rattle.answers.specs.declared.report.Numbers.{Numbers}

-- a report's numbers, each in the field of its name
abbrev pub numbers_of : Report → Numbers
numbers_of r = record { number = r.number; place = r.place; operand = r.operand; length = r.length }

-- the report that four numbers are
abbrev pub report_in : Numbers → Report
report_in n = record { number = n.number; place = n.place; operand = n.operand; length = n.length }
