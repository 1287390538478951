-- What a search answers. Assumes nothing.
use Rattle.std.specs.Prelude.{ℕ}

-- the index of the first element that was looked for, or that there is none
pub data Found : Type 0 where
  found : ℕ → Found
  missing : Found
