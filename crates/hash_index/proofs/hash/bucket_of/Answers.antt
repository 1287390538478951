use mathlib.Core.Path.{ap}
use Prim.Native.Nat.{ℕ, ◌*◌, ◌/◌}
use native.Mathlib.Omega.{arith}
use Rattle.hash_index.proofs.HashLaws.{scaled, scaled_below}
use Rattle.hash_index.proofs.hash.bucket_of.Goals as goal

pub overflow_mul-result : goal.overflow_mul-result
overflow_mul-result c = omega (arith, scaled c.hash_of.result c.args.m c.hash_of.ensures.1)

pub returns : goal.returns
returns c =
    let m = c.args.m in
    (ap (λ (h : ℕ). h * m / 65536) c.hash_of.ensures.0, scaled_below c.hash_of.result m c.hash_of.ensures.1 c.requires.0)
