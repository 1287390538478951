-- A number by all bytes of a text, by which most unequal texts are excluded before they are compared. Assumes nothing.
use Rattle.std.specs.Prelude.{ℕ, zero, suc, ◌+◌, ◌-◌, ◌*◌, ◌/◌, ◌%◌, List, ltb, length, take, drop}
use Rattle.lists.specs.Choice.{pick}
use Rattle.spec_numbers.specs.LittleEndian.{le}

-- four bytes more, as the number that they are, to a number of 32 bits
unfoldable pub hash_with : ℕ → ℕ → ℕ
hash_with h x = (h + x) * 1327217885 / 1048576 % 4294967296

-- n times four bytes more
unfoldable pub hash_from : ℕ → List ℕ → ℕ → ℕ
hash_from h s zero = h
hash_from h s (suc n) = hash_from (hash_with h (le (take 4 s))) (drop 4 s) n

-- a text of four bytes or more: its length, by four bytes, and then the last four, of which some may have been among those
unfoldable pub hash_long : List ℕ → ℕ
hash_long s = hash_with (hash_from (length s % 4294967296) s ((length s - 1) / 4)) (le (drop (length s - 4) s))

-- a number below 65536 by the length and all bytes
unfoldable pub hash_of : List ℕ → ℕ
hash_of s = pick (ltb (length s) 4) (hash_with (length s) (le s)) (hash_long s) % 65536

-- the bucket of a text among m, by its place among all hashes
abbrev pub bucket_of : ℕ → List ℕ → ℕ
bucket_of m s = hash_of s * m / 65536
