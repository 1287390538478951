-- The place of a whole number's significand. Assumes nothing.
use Rattle.std.proofs.Common.{◌≡◌, ℕ, ◌-◌, ◌*◌, ◌^◌, ◌<◌, ◌≤◌, arith}
use lib.Count.{count_leading_zeros}
use Rattle.spec_numbers.specs.Double.{top_bit}
use Rattle.spec_numbers.proofs.ZeroLaws.{top_bit_lem, sig_range}

-- what a number between 0 and 2^53 is when its highest bit is moved to place 52
pub record Placed (n : ℕ) : Type 0 where
  pub zeros : count_leading_zeros 64 n ≤ 63
  pub fits : top_bit n ≤ 52
  pub low : 2 ^ 52 ≤ n * 2 ^ (52 - top_bit n)
  pub high : n * 2 ^ (52 - top_bit n) < 2 ^ 53

pub placed : (n : ℕ) → n ≤ 2 ^ 53 → (n ≡ 0 → ⊥) → (n ≡ 2 ^ 53 → ⊥) → Placed n
placed n h z m =
    let p : 0 < n = omega (arith, z) in
    let l : n < 2 ^ 53 = omega (arith, m) in
    let r = sig_range n p l in
    record { zeros = (top_bit_lem n p l).zeros; fits = (top_bit_lem n p l).fits; low = r.0; high = r.1 }
