use Rattle.hasm_tokens.specs.TextValues.{is_literal}
use Rattle.slices.specs.Class.{in_class}
use Rattle.slices.proofs.ClassLaws.{agree_below, Is, all_same}
use mathlib.Core.List.{List, [], ◌∷◌}
use Prim.Native.Nat.{ℕ}
use mathlib.Core.Path.{refl, ◌∙◌}
use Rattle.hasm_tokens.proofs.text_token.all_literal.Goals as goal

-- the class, and that it is the test
abbrev class : List ℕ
class = 18446744073709551615 ∷ 18446744073441116159 ∷ 18446744073709551615 ∷ 18446744073709551615 ∷ []

literal-class : Is class is_literal
unfolding agree_below in_class
literal-class = refl

pub returns : goal.returns
returns c = c.all_in.ensures ∙ all_same class is_literal literal-class c.args.s.now (λ i. (c.type_inv.s i).fits)
