-- What the check of a text's lines answers, as its definition gives it. Assumes nothing.
use Rattle.std.specs.Prelude.{Result, Ok, Err}
use Rattle.answers.specs.declared.refusal.Refusal.{Refusal}
use Rattle.spec_hasm.specs.Assemble.{Assembled}
use Rattle.spec_hasm.specs.Assemble.Assembled.{not_assembled}

-- "3 then 2, line by line", or else what follows
abbrev pub checked_or : Result (Unit {0}) Refusal → Assembled → Assembled
checked_or (Ok _) rest = rest
checked_or (Err x) rest = not_assembled x
