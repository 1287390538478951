use Rattle.spec_hasm.specs.Assemble.{is_text_byte}
use Rattle.slices.specs.Class.{in_class}
use Rattle.slices.proofs.ClassLaws.{agree_below, Is, all_same}
use mathlib.Core.List.{List, [], ◌∷◌}
use Prim.Native.Nat.{ℕ}
use mathlib.Core.Path.{refl, ◌∙◌}
use Rattle.hasm_read.proofs.lines.is_text.Goals as goal

-- the class, and that it is the test
abbrev class : List ℕ
class = 18446744069414594048 ∷ 9223372036854775807 ∷ 0 ∷ 0 ∷ []

text-class : Is class is_text_byte
unfolding agree_below in_class is_text_byte
text-class = refl

pub returns : goal.returns
returns c = c.all_in.ensures ∙ all_same class is_text_byte text-class c.args.line.now (λ i. (c.type_inv.line i).fits)
