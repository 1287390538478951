use Prim.Native.Nat.{◌+◌}
use Rattle.lists.specs.Scan.{Bytes}
use Rattle.sheet.proofs.KeyedLaws.{keyed_read}
use Rattle.sheet.proofs.WordLaws.{word_opens, literal_there}
use Rattle.spec_numbers.specs.LittleEndian.{le_bytes}
use Rattle.lists.specs.Text.{text}
use native.Mathlib.Omega.{arith}
use lib.ListN.{length}
use borrow.Author.Tests.{leb-true}
use mathlib.Core.Path.{refl, sym, ◌∙◌}
use Rattle.sheet.proofs.line_word.quick_op.Goals as goal

pub read_of_eight-requires-then-read_of_eight-eq4026479 : goal.read_of_eight-requires-then-read_of_eight-eq4026479
read_of_eight-requires-then-read_of_eight-eq4026479 c = (omega (arith, leb-true (c.args.at + 16) (length c.args.s.now) (sym c.has_left.ensures ∙ c.if-not-has_left.false), c.in_ok-number.ensures.1), omega arith, omega arith)

pub overflow_add-result : goal.overflow_add-result
overflow_add-result c = omega (arith, leb-true (c.args.at + 16) (length c.args.s.now) (sym c.has_left.ensures ∙ c.if-not-has_left.false), c.in_ok-number.ensures.1)

pub returns-then-read_of_eight-eq67505836092960 : goal.returns-then-read_of_eight-eq67505836092960
unfolding text le_bytes
returns-then-read_of_eight-eq67505836092960 c =
    let s = c.args.s.now in
    let at = c.args.at in
    let bs : Bytes s = λ i. (c.type_inv.s i).fits in
    let n = c.in_ok-number in
    let k = literal_there (text "op=") s at (word_opens s at 3 bs (omega (arith, leb-true (c.args.at + 16) (length c.args.s.now) (sym c.has_left.ensures ∙ c.if-not-has_left.false))) (omega arith) (text "op=") c.read_of_eight.result 0x3d706f c.read_of_eight.ensures c.if-read_of_eight-eq4026479.true refl) in
    let t = literal_there (text " name=") s n.number.next (word_opens s n.number.next 6 bs (omega (arith, leb-true (c.args.at + 16) (length c.args.s.now) (sym c.has_left.ensures ∙ c.if-not-has_left.false), n.ensures.1)) (omega arith) (text " name=") c.read_of_eight-then-read_of_eight-eq4026479.result 0x3d656d616e20 c.read_of_eight-then-read_of_eight-eq4026479.ensures c.if-read_of_eight-eq67505836092960.true refl) in
    keyed_read (text "op=") 255 (text " name=") s at k n.ensures.0 t
