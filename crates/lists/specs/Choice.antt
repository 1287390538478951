-- Choices by a test, and tests joined. Assumes nothing.
use Rattle.std.specs.Prelude.{Bool, true, false, ℕ, leb}

-- the first of two where the test holds, else the second
abbrev pub pick : {A : Type 0} → Bool → A → A → A
pick true a b = a
pick false a b = b

-- both tests hold
abbrev pub both : Bool → Bool → Bool
both true b = b
both false b = false

-- one of two tests holds
abbrev pub either : Bool → Bool → Bool
either true b = true
either false b = b

-- a number from lo to hi
abbrev pub within : ℕ → ℕ → ℕ → Bool
within lo hi n = both (leb lo n) (leb n hi)
