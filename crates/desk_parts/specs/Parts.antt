-- What a C function returns where a number may be missing. Assumes nothing.
use Rattle.std.specs.Prelude.{ℕ, Option, Some, None}
use Rattle.desk_parts.specs.declared.PartNumber.{PartNumber}

-- 1 and the number that was read or the index that was found, and two zeros where there is none
abbrev pub part_of : Option ℕ → PartNumber
part_of (Some n) = record { found = 1; value = n }
part_of None = record { found = 0; value = 0 }
