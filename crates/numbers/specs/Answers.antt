-- What is read, as the code answers it. Assumes nothing.
use Rattle.std.specs.Prelude.{ℕ, Option, Some, None}
use Rattle.spec_numbers.specs.Parse.{Parsed}
use Rattle.spec_numbers.specs.Parse.Parsed.{is, bad}

-- a number that was read, or that the text is none
abbrev pub number_of : Parsed → Option ℕ
number_of (is n) = Some n
number_of bad = None
