use Rattle.carry.proofs.new_bits.number_into.Goals as goal

pub returns-then-fits_in : goal.returns-then-fits_in
returns-then-fits_in c = rw (← c.fits_in.ensures, c.if-fits_in.true)

pub returns : goal.returns
returns c = rw (← c.fits_in.ensures, c.if-fits_in.false)
