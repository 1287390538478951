-- Signed numbers by their bits, and 32-bit sums and differences that wrap. Assumes nothing.
use Rattle.std.specs.Prelude.{ℕ, suc, ◌+◌, ◌-◌, ◌^◌, ◌%◌, ltb, ℤ, pos, negsuc}
use Rattle.lists.specs.Choice.{pick}

-- the k bits n read in two's complement ("Addr and Imm32 signed")
abbrev pub signed : ℕ → ℕ → ℤ
signed k n = pick (ltb n (2 ^ (k - 1))) (pos n) (negsuc (2 ^ k - suc n))

-- the k bits of a number in two's complement ("signed bits in two's complement of that width, zero above")
abbrev pub unsigned : ℕ → ℤ → ℕ
unsigned k (pos n) = n
unsigned k (negsuc n) = 2 ^ k - suc n

-- "target minus offset, both taken as i32, and wraps", by the bits of all three
abbrev pub wrap_sub : ℕ → ℕ → ℕ
wrap_sub a b = (a + (2 ^ 32 - b)) % 2 ^ 32

-- "The target sum wraps at 32 bits", likewise
abbrev pub wrap_add : ℕ → ℕ → ℕ
wrap_add a b = (a + b) % 2 ^ 32

-- the 32 bits of a signed byte: `i8 as i32`
unfoldable pub extend8 : ℕ → ℕ
extend8 b = unsigned 32 (signed 8 b)
