-- Laws of the first comma outside quotes: at an index, and of the parts that it splits. Assumes nothing.
use mathlib.Core.Path.{◌≡◌, refl, ◌∙◌}
use mathlib.Core.Bool.{true, false}
use Prim.Native.Nat.{ℕ, suc, ◌+◌, ◌≤◌, ◌<◌}
use native.Mathlib.Nat.{add-zero}
use native.Mathlib.Omega.{arith}
use mathlib.Core.List.{List, [], ◌∷◌}
use borrow.Author.Tests.{eq-eqb, ne_eqb}
use lib.Dec.{eqb}
use lib.ListN.{length, take, drop, get_or}
use lib.Seq.{get_or-drop}
use Rattle.lists.proofs.Tests.{by_eqb}
use Rattle.spec_hasm.specs.Text.{onto}
use Rattle.spec_hasm.specs.Split.{split_outside, split_inside}
use Rattle.hasm_read.specs.Commas.{comma_outside, comma_inside, comma_at, is_comma}
use Rattle.hasm_read.specs.Quotes.{quote_at}
use Rattle.hasm_read.proofs.ScanLaws as scan
use Rattle.hasm_read.proofs.ScanLaws.{comma_scan, comma_inside_scan}

-- the clauses of the count and of the splitting, each by the byte that picks it
module _ (b : ℕ) (s : List ℕ) where
  module _ (e : b ≡ 34) where
    pub comma_cons_quote : comma_outside (b ∷ s) ≡ suc (comma_inside s)
    unfolding comma_outside
    comma_cons_quote = rw (eq-eqb b 34 e, comma_outside)

    pub inside_cons_quote : comma_inside (b ∷ s) ≡ suc (comma_outside s)
    unfolding comma_inside
    inside_cons_quote = rw (eq-eqb b 34 e, comma_inside)

    split_cons_quote : split_outside (b ∷ s) ≡ onto b (split_inside s)
    unfolding split_outside
    split_cons_quote = rw (eq-eqb b 34 e, split_outside)

    quoted_cons_quote : split_inside (b ∷ s) ≡ onto b (split_outside s)
    unfolding split_inside
    quoted_cons_quote = rw (eq-eqb b 34 e, split_inside)

  module _ (n : b ≡ 34 → ⊥) where
    pub inside_cons_go : comma_inside (b ∷ s) ≡ suc (comma_inside s)
    unfolding comma_inside
    inside_cons_go = rw (ne_eqb b 34 n, comma_inside)

    quoted_cons_go : split_inside (b ∷ s) ≡ onto b (split_inside s)
    unfolding split_inside
    quoted_cons_go = rw (ne_eqb b 34 n, split_inside)

    pub comma_cons_stop : b ≡ 44 → comma_outside (b ∷ s) ≡ 0
    unfolding comma_outside
    comma_cons_stop e = rw (ne_eqb b 34 n, eq-eqb b 44 e, comma_outside)

    split_cons_stop : b ≡ 44 → split_outside (b ∷ s) ≡ [] ∷ split_outside s
    unfolding split_outside
    split_cons_stop e = rw (ne_eqb b 34 n, eq-eqb b 44 e, split_outside)

    pub comma_cons_go : (b ≡ 44 → ⊥) → comma_outside (b ∷ s) ≡ suc (comma_outside s)
    unfolding comma_outside
    comma_cons_go m = rw (ne_eqb b 34 n, ne_eqb b 44 m, comma_outside)

    split_cons_go : (b ≡ 44 → ⊥) → split_outside (b ∷ s) ≡ onto b (split_outside s)
    unfolding split_outside
    split_cons_go m = rw (ne_eqb b 34 n, ne_eqb b 44 m, split_outside)

-- the steps of the scan for a comma
module _ (s : List ℕ) (i : ℕ) where
  pub comma_end : length s ≤ i → i + comma_at (drop i s) ≡ i
  comma_end h = rw (comma_scan _ _) at (scan.outside_end false is_comma s i h)

  pub inside_end : length s ≤ i → i + comma_inside (drop i s) ≡ i
  inside_end h = rw (comma_inside_scan _ _) at (scan.inside_end false is_comma s i h)

  next : is_comma (drop i s) ≡ eqb (get_or s i 0) 44
  next = rw (get_or-drop i s 0 0, add-zero)

  module _ (h : i < length s) where
    module _ (e : quote_at false s i ≡ true) where
      pub comma_quote : i + comma_at (drop i s) ≡ i + 1 + comma_inside (drop (i + 1) s)
      comma_quote = rw (comma_scan _ _, comma_inside_scan _ _) at (scan.outside_quote false is_comma s i h e)

      pub inside_quote : i + comma_inside (drop i s) ≡ i + 1 + comma_at (drop (i + 1) s)
      inside_quote = rw (comma_scan _ _, comma_inside_scan _ _) at (scan.inside_quote false is_comma s i h e)

    module _ (n : quote_at false s i ≡ false) where
      pub comma_stop : get_or s i 0 ≡ 44 → i + comma_at (drop i s) ≡ i
      comma_stop e = rw (comma_scan _ _) at (scan.outside_stop false is_comma s i h n (next ∙ eq-eqb _ 44 e))

      pub comma_go : (get_or s i 0 ≡ 44 → ⊥) → i + comma_at (drop i s) ≡ i + 1 + comma_at (drop (i + 1) s)
      comma_go m = rw (comma_scan _ _, comma_scan _ _) at (scan.outside_go false is_comma s i h n (next ∙ ne_eqb _ 44 m))

      pub inside_go : i + comma_inside (drop i s) ≡ i + 1 + comma_inside (drop (i + 1) s)
      inside_go = rw (comma_inside_scan _ _, comma_inside_scan _ _) at (scan.inside_go false is_comma s i h n)

-- the parts l of a text s whose first comma outside quotes stands at k
pub record Splits (s : List ℕ) (k : ℕ) (l : List (List ℕ)) : Type 0 where
  pub here : k < length s → l ≡ take k s ∷ split_outside (drop (suc k) s)
  pub none : length s ≤ k → l ≡ s ∷ []

-- a byte in front that is no such comma
past : (b : ℕ) (s : List ℕ) (k k' : ℕ) (l l' : List (List ℕ)) → Splits s k l → k' ≡ suc k → l' ≡ onto b l → Splits (b ∷ s) k' l'
unfolding onto
past b s k k' l l' p e f =
    record {
      here = λ h. rw (f, e, p.here (omega (arith, e)));
      none = λ h. rw (f, p.none (omega (arith, e)));
    }

-- a comma in front
at_once : (b : ℕ) (s : List ℕ) (k : ℕ) (l : List (List ℕ)) → k ≡ 0 → l ≡ [] ∷ split_outside s → Splits (b ∷ s) k l
at_once b s k l e f = record { here = λ h. rw (f, e); none = λ h. absurd (omega (arith, e)) }

-- outside and inside quotes
splits : (s : List ℕ) → Splits s (comma_outside s) (split_outside s) × Splits s (comma_inside s) (split_inside s)
unfolding comma_outside split_outside
splits [] = (record { here = λ h. absurd (omega arith); none = λ h. refl }, record { here = λ h. absurd (omega arith); none = λ h. refl })
splits (b ∷ s) = go (splits s)
  where
    go : Splits s (comma_outside s) (split_outside s) × Splits s (comma_inside s) (split_inside s)
        → Splits (b ∷ s) (comma_outside (b ∷ s)) (split_outside (b ∷ s)) × Splits (b ∷ s) (comma_inside (b ∷ s)) (split_inside (b ∷ s))
    go ih =
        by_eqb b 34
        (λ e. (past b s _ _ _ _ ih.1 (comma_cons_quote b s e) (split_cons_quote b s e), past b s _ _ _ _ ih.0 (inside_cons_quote b s e) (quoted_cons_quote b s e)))
        (λ n. (
          by_eqb b 44
              (λ e. at_once b s _ _ (comma_cons_stop b s n e) (split_cons_stop b s n e))
              (λ m. past b s _ _ _ _ ih.0 (comma_cons_go b s n m) (split_cons_go b s n m)),
          past b s _ _ _ _ ih.1 (inside_cons_go b s n) (quoted_cons_go b s n),
        ))

-- the first part ends at the first comma outside quotes; without one there is one part
pub split_comma : (s : List ℕ) → comma_at s < length s → split_outside s ≡ take (comma_at s) s ∷ split_outside (drop (suc (comma_at s)) s)
split_comma s h = (splits s).0.here h

pub split_none : (s : List ℕ) → length s ≤ comma_at s → split_outside s ≡ s ∷ []
split_none s h = (splits s).0.none h
