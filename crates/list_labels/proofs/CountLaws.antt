-- What counting by parts needs: each part is of its range, and both counts add up. Assumes nothing.
use mathlib.Core.Path.{◌≡◌, ◌∙◌}
use mathlib.Core.List.{List, ◌++◌}
use Prim.Native.Nat.{ℕ, ◌+◌, ◌-◌, ◌≤◌}
use native.Mathlib.Nat.{sub-zero}
use native.Mathlib.Omega.{arith}
use lib.ListN.{length, take}
use lib.Seq.{take_at, length-take-le}
use Rattle.spec_listing.specs.Labels.{different}
use Rattle.list_labels.specs.Parts.{below, above, Between}
use Rattle.list_labels.proofs.DifferentLaws.{different_most}
use Rattle.list_labels.proofs.PartLaws.{between_below, between_above, different_parts}

-- the slices a and spare hold the parts of `all`
module _ (low mid high : ℕ) (all a spare : List ℕ) (n : ℕ) (e : take n a ≡ below mid all) (f : take (length all - n) spare ≡ above mid all) where
  pub front_between : Between low high all → Between low mid (take (n - 0) a)
  front_between h = rw (sub-zero n, e) (between_below low mid high h)

  -- behind its part spare was changed
  module _ (tail : List ℕ) (l : length all - n ≤ length spare) where
    abbrev changed : List ℕ
    changed = take (length all - n) spare ++ tail

    back : take ((length all - n) - 0) changed ≡ above mid all
    back = rw (sub-zero (length all - n)) (take_at (take (length all - n) spare) tail (length all - n) (length-take-le (length all - n) spare l) ∙ f)

    pub back_between : Between low high all → Between mid high (take ((length all - n) - 0) changed)
    back_between h = rw back (between_above low mid high h)

    -- the counts of both parts
    module _ (x y : ℕ) (p : x ≡ different (take (n - 0) a)) (q : y ≡ different (take ((length all - n) - 0) changed)) where
      pub counts : x + y ≡ different all
      counts = rw (p, q, back, sub-zero n, e) (different_parts mid all)

      pub counts_most : x + y ≤ length all
      counts_most = omega (arith, counts, different_most all)
