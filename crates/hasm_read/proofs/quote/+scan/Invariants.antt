use Rattle.std.proofs.Common.{◌≡◌, ◌+◌, ◌-◌, length, drop}
use Rattle.hasm_read.specs.Quotes.{outside_by, inside_by, byte_before}
use Rattle.hasm_read.proofs.quote.+scan.Given as goal

abbrev pub decreases-inside_quotes : goal.decreases-inside_quotes
decreases-inside_quotes g l = length l.s.now - l.at

abbrev pub decreases-outside_quotes : goal.decreases-outside_quotes
decreases-outside_quotes g l = length l.s.now - l.at

abbrev pub invariant-inside_quotes-loop-i : goal.invariant-inside_quotes-loop-i
invariant-inside_quotes-loop-i g l =
    l.at + inside_by g.S.Scan.escapes g.S.Scan.stop (byte_before l.s l.at) (drop l.at l.s)
    ≡ l.i + inside_by g.S.Scan.escapes g.S.Scan.stop (byte_before l.s l.i) (drop l.i l.s)

abbrev pub invariant-outside_quotes-loop-i : goal.invariant-outside_quotes-loop-i
invariant-outside_quotes-loop-i g l =
    l.at + outside_by g.S.Scan.escapes g.S.Scan.stop (byte_before l.s l.at) (drop l.at l.s)
    ≡ l.i + outside_by g.S.Scan.escapes g.S.Scan.stop (byte_before l.s l.i) (drop l.i l.s)
