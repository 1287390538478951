-- The answers of the sheet's functions, as their definitions give them. Assumes nothing.
use Rattle.std.specs.Prelude.{ℕ, Option, Some, None}
use Rattle.spec_sheet.specs.Scan as scan
use Rattle.spec_sheet.specs.Scan.Step.{next, off}
use Rattle.sheet.specs.declared.scan.Reading.{Reading}

-- a reading
unfoldable pub step_of : scan.Step → Option Reading
step_of (next value at) = Some (record { value = value; next = at })
step_of off = None

-- a reading whose value says nothing: the place behind it
unfoldable pub place_of : scan.Step → Option ℕ
place_of (next value at) = Some at
place_of off = None
