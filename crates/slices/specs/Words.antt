-- Some bytes of a list as one number, the first the lowest. Assumes nothing.
use Rattle.std.specs.Prelude.{ℕ, ◌+◌, ◌*◌, List, get_or}

abbrev pub two_at : List ℕ → ℕ → ℕ
two_at s i = get_or s i 0 + get_or s (i + 1) 0 * 256

unfoldable pub four_at : List ℕ → ℕ → ℕ
four_at s i = two_at s i + two_at s (i + 2) * 65536
