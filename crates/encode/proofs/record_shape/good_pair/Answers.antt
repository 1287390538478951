use borrow.Author.Tests.{lt-leb, le-leb}
use mathlib.Core.Path.{refl}
use Rattle.spec_body.specs.Encode.{good_pair}
use Rattle.encode.proofs.record_shape.good_pair.Goals as goal

pub returns-then-kind-le5 : goal.returns-then-kind-le5
unfolding good_pair
returns-then-kind-le5 c = rw (le-leb c.args.kind 5 c.if-kind-le5.true) c.fits_in.ensures

pub returns-else-kind-le5 : goal.returns-else-kind-le5
unfolding good_pair
returns-else-kind-le5 c = rw (lt-leb c.args.kind 5 c.if-kind-le5.false) refl
