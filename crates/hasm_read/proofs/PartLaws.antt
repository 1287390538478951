-- A part of a part of a list, and how long a part is. Assumes nothing.
use mathlib.Core.Path.{◌≡◌, sym}
use Prim.Native.Nat.{ℕ, zero, suc, ◌-◌, ◌≤◌}
use native.Mathlib.Omega.{arith}
use mathlib.Core.List.{List, [], ◌∷◌}
use lib.ListN.{length, take, drop, length-take, length-drop}
use lib.Seq.{take-nil}
use Rattle.lists.specs.Scan.{part}

pub drop_take : (k n : ℕ) (s : List ℕ) → drop k (take n s) ≡ take (n - k) (drop k s)
drop_take zero n s =
    let e : n - 0 ≡ n = omega arith in
    rw e
drop_take (suc k) zero s =
    let e : 0 - suc k ≡ 0 = omega arith in
    rw e
drop_take (suc k) (suc n) [] = sym (take-nil (suc n - suc k))
drop_take (suc k) (suc n) (b ∷ s) =
    let e : suc n - suc k ≡ n - k = omega arith in
    rw e (drop_take k n s)

-- what `&l[a..b]` is of a line is no longer
pub part_short : (l line : List ℕ) (a b m : ℕ) → l ≡ line → length line ≤ m → length (part l a (b - a)) ≤ m
part_short l line a b m i h = rw (length-take, length-drop, i) (omega arith)
