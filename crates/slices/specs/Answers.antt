-- What a search answers, in the code's own type. Assumes nothing.
use Rattle.std.specs.Prelude.{ℕ, Option, Some, None}
use Rattle.lists.specs.Found as lists
use Rattle.lists.specs.Found.Found.{found, missing}

-- what a search answers
abbrev pub found_of : lists.Found → Option ℕ
found_of (found i) = Some i
found_of missing = None
