use Rattle.decode.proofs.record.put_operand.Goals as goal

pub returns : goal.returns
returns c =
    rw (← c.wide_byte.ensures.0, ← c.read_of_eight-bits.ensures) c.put_pair.ensures
