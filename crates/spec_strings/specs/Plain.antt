-- *Plain* text (document 01, 'Assembler'). Assumes nothing.
use Rattle.std.specs.Prelude.{ℕ, ◌-◌, Bool, not, List, eqb, length, get_or}
use Rattle.lists.specs.Choice.{both, either, within}
use Rattle.lists.specs.Scan.{all}

-- "bytes 9, 10, 13, 32 to 126 but no 34"
unfoldable pub plain_byte : ℕ → Bool
plain_byte b = either (eqb b 9) (either (eqb b 10) (either (eqb b 13) (both (within 32 126 b) (not (eqb b 34)))))

-- "last byte not 92"
unfoldable pub plain : List ℕ → Bool
plain s = both (all plain_byte s) (not (eqb (get_or s (length s - 1) 0) 92))
