-- What stands for a number in a word: 1 more than it, or 0 for none. Assumes nothing.
use Rattle.std.specs.Prelude.{List, ℕ, zero, suc, Option, None, Some}
use Rattle.spec_carry.specs.Passes.{Carrying}
use Rattle.carry.specs.Ids.{Translated}
use Rattle.carry.specs.Places.{Mapped}

unfoldable pub mark_of : Option ℕ → ℕ
mark_of None = 0
mark_of (Some n) = suc n

unfoldable pub marked : ℕ → Option ℕ
marked zero = None
marked (suc n) = Some n

-- what stands for the places and ids of a body that is carried
pub record Marked (x : Carrying) (map ids : List ℕ) : Type 0 where
  pub mapped : Mapped x map
  pub translated : Translated x.from.bytes x.from.ends x.into.bytes x.into.ends ids
