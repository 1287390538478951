-- What reading a line of hex answers and writes. Assumes nothing.
use Rattle.std.specs.Prelude.{◌≡◌, Option, Some, None, List, ℕ}
use Rattle.lists.specs.Write.{Put}
use Rattle.spec_job.specs.Hex as definition
use Rattle.spec_job.specs.Hex.HexRead.{hex, no_hex}
use Rattle.job.specs.declared.hex.HexRead.{HexRead}

-- a line that evaluates to x was written at `from`: the buffer was `out` and is `out'`, and r was answered. Of a malformed line
-- anything may be left in the buffer
pub data Lined (x : definition.HexRead) (out : List ℕ) («from» : ℕ) (out' : List ℕ) (r : Option HexRead) : Type 0 where
  line : (bs : List ℕ) (b k : ℕ) → x ≡ hex bs b → r ≡ Some (record { end = b; next = k }) → Put out «from» bs out' k → Lined x out «from» out' r
  no_line : x ≡ no_hex → r ≡ None → Lined x out «from» out' r
