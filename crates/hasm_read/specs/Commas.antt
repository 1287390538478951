-- Where the first comma outside quotes stands. Assumes nothing.
use Rattle.std.specs.Prelude.{ℕ, suc, Bool, List, [], ◌∷◌, eqb, get_or}
use Rattle.lists.specs.Choice.{pick}

-- how many bytes stand before it, all of them where there is none, from outside or inside quotes on; "the operand splitter
-- doesn't" honour a backslash
unfoldable mutual
  pub comma_outside : List ℕ → ℕ
  comma_outside [] = 0
  comma_outside (b ∷ s) = pick (eqb b 34) (suc (comma_inside s)) (pick (eqb b 44) 0 (suc (comma_outside s)))

  pub comma_inside : List ℕ → ℕ
  comma_inside [] = 0
  comma_inside (b ∷ s) = pick (eqb b 34) (suc (comma_outside s)) (suc (comma_inside s))

abbrev pub comma_at : List ℕ → ℕ
comma_at s = comma_outside s

-- a comma comes next
abbrev pub is_comma : List ℕ → Bool
is_comma s = eqb (get_or s 0 0) 44
