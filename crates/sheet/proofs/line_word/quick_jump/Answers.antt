use Rattle.lists.specs.Scan.{Bytes}
use Rattle.sheet.proofs.KeyedLaws.{jump_form}
use Rattle.sheet.proofs.WordLaws.{word_opens, whole_word, opens_join}
use Rattle.spec_numbers.specs.Parse.{digit_value, digits_value, unsigned_value}
use Rattle.spec_numbers.specs.LittleEndian.{le_bytes}
use Rattle.lists.specs.Text.{text}
use Prim.Native.Nat.{◌+◌}
use native.Mathlib.Omega.{arith}
use lib.ListN.{length}
use borrow.Author.Tests.{leb-true}
use mathlib.Core.Path.{refl, sym, ◌∙◌}
use Rattle.sheet.proofs.line_word.quick_jump.Goals as goal

pub returns-then-w-eq2319421361177848352 : goal.returns-then-w-eq2319421361177848352
unfolding text le_bytes digit_value digits_value unsigned_value
returns-then-w-eq2319421361177848352 c =
    let s = c.args.s.now in
    let at = c.args.at in
    let bs : Bytes s = λ i. (c.type_inv.s i).fits in
    let r = c.read_of_eight-w in
    let o = word_opens s at 8 bs (omega (arith, leb-true (c.args.at + 16) (length c.args.s.now) (sym c.has_left.ensures ∙ c.if-not-has_left.false))) (omega arith) (text " jump=0 ") r.result 0x20303d706d756a20 r.ensures (whole_word s at bs (omega (arith, leb-true (c.args.at + 16) (length c.args.s.now) (sym c.has_left.ensures ∙ c.if-not-has_left.false))) r.result r.ensures ∙ c.if-w-eq2319421361177848352.true) refl in
    let t = word_opens s (at + 8) 6 bs (omega (arith, leb-true (c.args.at + 16) (length c.args.s.now) (sym c.has_left.ensures ∙ c.if-not-has_left.false))) (omega arith) (text "types=") c.read_of_eight.result 0x3d7365707974 c.read_of_eight.ensures c.if-read_of_eight-eq67565832403316.true refl in
    jump_form 48 0 s at refl refl (opens_join (text " jump=0 ") (text "types=") s at o t)

pub returns-then-w-eq2319702836154559008 : goal.returns-then-w-eq2319702836154559008
unfolding text le_bytes digit_value digits_value unsigned_value
returns-then-w-eq2319702836154559008 c =
    let s = c.args.s.now in
    let at = c.args.at in
    let bs : Bytes s = λ i. (c.type_inv.s i).fits in
    let r = c.read_of_eight-w in
    let o = word_opens s at 8 bs (omega (arith, leb-true (c.args.at + 16) (length c.args.s.now) (sym c.has_left.ensures ∙ c.if-not-has_left.false))) (omega arith) (text " jump=1 ") r.result 0x20313d706d756a20 r.ensures (whole_word s at bs (omega (arith, leb-true (c.args.at + 16) (length c.args.s.now) (sym c.has_left.ensures ∙ c.if-not-has_left.false))) r.result r.ensures ∙ c.if-w-eq2319702836154559008.true) refl in
    let t = word_opens s (at + 8) 6 bs (omega (arith, leb-true (c.args.at + 16) (length c.args.s.now) (sym c.has_left.ensures ∙ c.if-not-has_left.false))) (omega arith) (text "types=") c.read_of_eight.result 0x3d7365707974 c.read_of_eight.ensures c.if-read_of_eight-eq67565832403316.true refl in
    jump_form 49 1 s at refl refl (opens_join (text " jump=1 ") (text "types=") s at o t)
