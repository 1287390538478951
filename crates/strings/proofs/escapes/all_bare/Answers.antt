use Rattle.strings.specs.Turns.{bare}
use Rattle.slices.specs.Class.{in_class}
use Rattle.slices.proofs.ClassLaws.{agree_below, Is, all_same}
use mathlib.Core.List.{List, [], ◌∷◌}
use Prim.Native.Nat.{ℕ}
use mathlib.Core.Path.{refl, ◌∙◌}
use Rattle.strings.proofs.escapes.all_bare.Goals as goal

-- the class, and that it is the test
abbrev class : List ℕ
class = 18446744052234715136 ∷ 9223372036586340351 ∷ 0 ∷ 0 ∷ []

bare-class : Is class bare
unfolding agree_below in_class bare
bare-class = refl

pub returns : goal.returns
returns c = c.all_in.ensures ∙ all_same class bare bare-class c.args.s.now (λ i. (c.type_inv.s i).fits)
