-- Whether a number may grow by a digit. Assumes nothing.
use Rattle.std.specs.Prelude.{ℕ, Bool, ◌==◌, nat_le, nat_lt}
use Rattle.lists.specs.Choice.{both, either}

-- n and a digit d behind it are at most `front` and `last` behind it
abbrev pub has_room : ℕ → ℕ → ℕ → ℕ → Bool
has_room front last n d = either (nat_lt n front) (both (n == front) (nat_le d last))
