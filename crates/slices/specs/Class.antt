-- A class of bytes: bit b of its four words says whether byte b is in it. Assumes nothing.
use Rattle.std.specs.Prelude.{ℕ, ◌/◌, ◌%◌, ◌^◌, Bool, List, eqb, get_or}

unfoldable pub in_class : List ℕ → ℕ → Bool
in_class class b = eqb (get_or class (b / 64) 0 / 2 ^ (b % 64) % 2) 1
