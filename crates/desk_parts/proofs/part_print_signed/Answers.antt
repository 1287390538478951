use Rattle.spec_numbers.proofs.PrintLaws.{decimal_length}
use Rattle.spec_numbers.specs.TwosComplement.{signed}
use Rattle.spec_numbers.specs.Print.{signed_decimal}
use Rattle.lists.proofs.Aheads.{ahead_front}
use Rattle.lists.proofs.Writes.{same_piece}
use lib.ListN.{length}
use lib.IntN.{ℤ, pos, negsuc}
use native.Mathlib.Omega.{arith}
use native.Mathlib.Numerals.{unary_clauses}
use Prim.Native.Nat.{suc, ◌≤◌}
use Rattle.desk_parts.proofs.part_print_signed.Goals as goal

-- a number of 32 bits takes few characters
signed-short : (x : ℤ) → length (signed_decimal x) ≤ 21
unfolding signed_decimal
signed-short (pos n) = omega (arith, decimal_length n)
signed-short (negsuc n) = omega (arith, decimal_length (suc n))

pub slice_bounds-put_bytes-end : goal.slice_bounds-put_bytes-end
slice_bounds-put_bytes-end c = omega (arith, c.put_signed-k.ensures.next, signed-short (signed 32 c.args.bits))

pub returns : goal.returns
returns c =
    let p = c.put_signed-k.ensures in
    same_piece (ahead_front p (omega (arith, signed-short (signed 32 c.args.bits)))) (simp unary_clauses at c.put_bytes.ensures)
