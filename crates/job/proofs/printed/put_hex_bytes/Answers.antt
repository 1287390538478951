use Rattle.job.proofs.PrintLaws.{hex_none, hex_turn, hex_end}
use Rattle.lists.proofs.Writes.{same_piece, wrote_none, kept_length}
use Rattle.spec_numbers.specs.Print.{hex_upper}
use lib.ListN.{length}
use mathlib.Core.Path.{ap, sym}
use native.Mathlib.Omega.{arith}
use Rattle.job.proofs.printed.put_hex_bytes.Goals as goal

pub loop-b-init : goal.loop-b-init
loop-b-init c = (same_piece (sym hex_none) (wrote_none (omega arith) (omega arith)), ap length hex_none)

pub loop-b-preserved : goal.loop-b-preserved
unfolding hex_upper
loop-b-preserved c = let l = c.loop-b in hex_turn _ _ l.invariant.0 l.invariant.1 c.loop-b-test.true (omega arith) c.put_hex_byte-k.ensures

pub shape_of-out : goal.shape_of-out
shape_of-out c = kept_length c.loop-b.invariant.0

pub returns : goal.returns
returns c =
    let l = c.loop-b in
    let w = hex_end _ _ l.invariant.0 l.invariant.1 c.loop-b-test.false (omega arith) in
    record { put = w.0; s_len = w.1 }
