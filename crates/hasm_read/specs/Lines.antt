-- A line by its place in the text. Assumes nothing.
use Rattle.std.specs.Prelude.{ℕ, ◌-◌, ◌≤◌, Bool, not, List, [], eqb, ltb, length, get_or}
use Rattle.lists.specs.Choice.{pick, both}
use Rattle.lists.specs.Scan.{part}
use Rattle.limits.specs.Limits.{line_limit}
use Rattle.spec_hasm.specs.Text.{lines_of}

-- no LF
abbrev pub not_feed : ℕ → Bool
not_feed b = not (eqb b 10)

-- how many bytes a line has that starts at `at` and whose LF, or the text's end, stands at `end`: "line end (LF or CR LF) not
-- counted"
unfoldable pub line_length : List ℕ → ℕ → ℕ → ℕ
line_length s at end =
    pick (both (ltb end (length s)) (both (ltb at end) (eqb (get_or s (end - 1) 0) 13))) (end - at - 1) (end - at)

-- the line itself
abbrev pub line_in : List ℕ → ℕ → ℕ → List ℕ
line_in s at end = part s at (line_length s at end)

-- every line of a text has at most 4,096 bytes: 3 refuses none
abbrev pub ShortLines : List ℕ → Type 0
ShortLines text = (i : ℕ) → length (get_or (lines_of text) i []) ≤ line_limit
