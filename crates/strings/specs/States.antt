-- The numbers that the definition of UTF-8 gives the reader's states. Assumes nothing.
use Rattle.std.specs.Prelude.{ℕ}
use Rattle.spec_strings.specs.Utf8.{broken}
use Rattle.strings.specs.declared.utf8.State.{State}
use Rattle.strings.specs.declared.utf8.State.TheVariants.{Between, OneMore, TwoMore, ThreeMore, BehindE0, BehindEd, BehindF0, BehindF4, Broken}

abbrev pub state_number : State → ℕ
state_number Between = 0
state_number OneMore = 1
state_number TwoMore = 2
state_number ThreeMore = 3
state_number BehindE0 = 4
state_number BehindEd = 5
state_number BehindF0 = 6
state_number BehindF4 = 7
state_number Broken = broken
