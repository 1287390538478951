-- Laws of the two scans for a comment, at an index, and of the test for two slashes. Assumes nothing.
use mathlib.Core.Path.{◌≡◌, refl, ◌∙◌}
use mathlib.Core.Bool.{true, false}
use Prim.Native.Nat.{ℕ, suc, ◌+◌, ◌≤◌, ◌<◌}
use native.Mathlib.Nat.{add-zero}
use mathlib.Core.List.{List, ◌∷◌}
use borrow.Author.Tests.{eq-eqb, ne_eqb}
use lib.Dec.{eqb}
use lib.ListN.{length, drop, get_or, get_or-eq_default}
use lib.Seq.{get_or-drop}
use Rattle.lists.specs.Choice.{both}
use Rattle.lists.proofs.Tests.{both_no_right}
use Rattle.spec_hasm.specs.Comment.{is_quote, is_comment, outside, inside}
use Rattle.hasm_read.specs.Quotes.{byte_before}
use Rattle.hasm_read.proofs.ScanLaws as scan
use Rattle.hasm_read.proofs.ScanLaws.{comment_scan, comment_inside_scan}

-- the clauses, each by the tests that pick it
module _ (p b : ℕ) (s : List ℕ) where
  pub outside_cons_quote : is_quote p b ≡ true → outside p (b ∷ s) ≡ suc (inside b s)
  outside_cons_quote e = rw (comment_scan _ _, comment_inside_scan _ _) at (scan.outside_cons_quote true is_comment p b s e)

  pub outside_cons_stop : is_quote p b ≡ false → is_comment (b ∷ s) ≡ true → outside p (b ∷ s) ≡ 0
  outside_cons_stop e f = rw (comment_scan _ _) at (scan.outside_cons_stop true is_comment p b s e f)

  pub outside_cons_go : is_quote p b ≡ false → is_comment (b ∷ s) ≡ false → outside p (b ∷ s) ≡ suc (outside b s)
  outside_cons_go e f = rw (comment_scan _ _, comment_scan _ _) at (scan.outside_cons_go true is_comment p b s e f)

  pub inside_cons_quote : is_quote p b ≡ true → inside p (b ∷ s) ≡ suc (outside b s)
  inside_cons_quote e = rw (comment_scan _ _, comment_inside_scan _ _) at (scan.inside_cons_quote true is_comment p b s e)

  pub inside_cons_go : is_quote p b ≡ false → inside p (b ∷ s) ≡ suc (inside b s)
  inside_cons_go e = rw (comment_inside_scan _ _, comment_inside_scan _ _) at (scan.inside_cons_go true is_comment p b s e)

-- the steps of the scan for a comment
module _ (s : List ℕ) (i : ℕ) where
  pub outside_end : length s ≤ i → i + outside (byte_before s i) (drop i s) ≡ i
  outside_end h = rw (comment_scan _ _) at (scan.outside_end true is_comment s i h)

  pub inside_end : length s ≤ i → i + inside (byte_before s i) (drop i s) ≡ i
  inside_end h = rw (comment_inside_scan _ _) at (scan.inside_end true is_comment s i h)

  module _ (h : i < length s) where
    pub outside_quote : is_quote (byte_before s i) (get_or s i 0) ≡ true
        → i + outside (byte_before s i) (drop i s) ≡ i + 1 + inside (byte_before s (i + 1)) (drop (i + 1) s)
    outside_quote e = rw (comment_scan _ _, comment_inside_scan _ _) at (scan.outside_quote true is_comment s i h e)

    pub outside_stop : is_quote (byte_before s i) (get_or s i 0) ≡ false → is_comment (drop i s) ≡ true
        → i + outside (byte_before s i) (drop i s) ≡ i
    outside_stop e f = rw (comment_scan _ _) at (scan.outside_stop true is_comment s i h e f)

    pub outside_go : is_quote (byte_before s i) (get_or s i 0) ≡ false → is_comment (drop i s) ≡ false
        → i + outside (byte_before s i) (drop i s) ≡ i + 1 + outside (byte_before s (i + 1)) (drop (i + 1) s)
    outside_go e f = rw (comment_scan _ _, comment_scan _ _) at (scan.outside_go true is_comment s i h e f)

    pub inside_quote : is_quote (byte_before s i) (get_or s i 0) ≡ true
        → i + inside (byte_before s i) (drop i s) ≡ i + 1 + outside (byte_before s (i + 1)) (drop (i + 1) s)
    inside_quote e = rw (comment_scan _ _, comment_inside_scan _ _) at (scan.inside_quote true is_comment s i h e)

    pub inside_go : is_quote (byte_before s i) (get_or s i 0) ≡ false
        → i + inside (byte_before s i) (drop i s) ≡ i + 1 + inside (byte_before s (i + 1)) (drop (i + 1) s)
    inside_go e = rw (comment_inside_scan _ _, comment_inside_scan _ _) at (scan.inside_go true is_comment s i h e)

-- the test for two slashes
pub comment_at : (s : List ℕ) (i : ℕ) → is_comment (drop i s) ≡ both (eqb (get_or s i 0) 47) (eqb (get_or s (i + 1) 0) 47)
unfolding is_comment
comment_at s i = rw (get_or-drop i s 0 0, get_or-drop i s 1 0, add-zero)

module _ (s : List ℕ) (i : ℕ) where
  pub no_slash : (get_or s i 0 ≡ 47 → ⊥) → is_comment (drop i s) ≡ false
  no_slash h = comment_at s i ∙ rw (ne_eqb _ 47 h)

  pub one_slash : get_or s i 0 ≡ 47 → is_comment (drop i s) ≡ eqb (get_or s (i + 1) 0) 47
  one_slash h = comment_at s i ∙ rw (eq-eqb _ 47 h)

  pub last_slash : length s ≤ i + 1 → is_comment (drop i s) ≡ false
  last_slash h = comment_at s i ∙ rw (get_or-eq_default s 0 h) (both_no_right (eqb (get_or s i 0) 47) false refl)
