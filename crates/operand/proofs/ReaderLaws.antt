-- The number of the bytes at a position, of which every read of ByteReader is made. Assumes nothing.
use Rattle.std.proofs.Common.{◌≡◌, ℕ, ◌+◌, ◌^◌, ◌≤◌, ◌<◌, List, Some, None, length, get_or, le-leb}
use Rattle.std.proofs.lemmas.Bool.{lt-leb}
use Rattle.lists.specs.Scan.{part}
use Rattle.spec_numbers.specs.LittleEndian.{le}
use Rattle.spec_body.proofs.ReencodeLaws.{part_below}
use Rattle.operand.specs.Reader.{number_at}

module _ (s : List ℕ) (at n : ℕ) where
  -- the bytes are there
  pub all_there : at + n ≤ length s → (bits : ℕ) → bits ≡ le (part s at n) → ((i : ℕ) → get_or s i 0 < 256)
      → (Some bits ≡ number_at s at n) × (bits < 256 ^ n)
  all_there h bits e f = (rw (le-leb (at + n) (length s) h, e), rw e (part_below s at n f))

  -- or they end
  pub cut_short : length s < at + n → None ≡ number_at s at n
  cut_short h = rw (lt-leb (at + n) (length s) h)
