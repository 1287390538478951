use native.Mathlib.Omega.{arith}
use Rattle.lists.proofs.Writes.{kept_length}
use Rattle.lists.proofs.Aheads.{◌and_then◌, not_ahead}
use Rattle.encode.proofs.canonical.put_record.Goals as goal

pub put_operands-requires : goal.put_operands-requires
put_operands-requires c = (c.requires.0, c.requires.1, omega (arith, c.put_byte-k.ensures.next, c.requires.2, kept_length c.put_byte-k.ensures))

pub returns : goal.returns
returns c = (not_ahead c.put_byte-k.ensures and_then (c.put_operands.ensures.0, omega arith), c.put_operands.ensures.1)
