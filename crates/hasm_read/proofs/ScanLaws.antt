-- Laws of a scan outside and inside quotes, at an index, and what the scans for a comment and for a comma are. Assumes nothing.
use mathlib.Core.Path.{◌≡◌, refl}
use mathlib.Core.Bool.{Bool, true, false}
use Prim.Native.Nat.{ℕ, suc, ◌+◌, ◌≤◌, ◌<◌}
use native.Mathlib.Numerals.{add-one}
use native.Mathlib.Omega.{arith}
use mathlib.Core.List.{List, [], ◌∷◌}
use lib.ListN.{length, drop, get_or, drop_of_length-le}
use lib.Seq.{drop-cons}
use Rattle.spec_hasm.specs.Comment.{is_comment, outside, inside}
use Rattle.hasm_read.specs.Commas.{is_comma, comma_outside, comma_inside}
use Rattle.hasm_read.specs.Quotes.{byte_before, quote_by, quote_at, outside_by, inside_by}

-- the byte in front of the next place is the one at this place
before_next : (s : List ℕ) (i : ℕ) → byte_before s (i + 1) ≡ get_or s i 0
before_next s i = rw (add-one i)

module _ (e : Bool) (stop : List ℕ → Bool) where
  -- the clauses, each by the tests that pick it
  module _ (p b : ℕ) (s : List ℕ) where
    pub outside_cons_quote : quote_by e p b ≡ true → outside_by e stop p (b ∷ s) ≡ suc (inside_by e stop b s)
    unfolding outside_by
    outside_cons_quote q = rw (q, outside_by)

    pub outside_cons_stop : quote_by e p b ≡ false → stop (b ∷ s) ≡ true → outside_by e stop p (b ∷ s) ≡ 0
    unfolding outside_by
    outside_cons_stop q f = rw (q, f, outside_by)

    pub outside_cons_go : quote_by e p b ≡ false → stop (b ∷ s) ≡ false → outside_by e stop p (b ∷ s) ≡ suc (outside_by e stop b s)
    unfolding outside_by
    outside_cons_go q f = rw (q, f, outside_by)

    pub inside_cons_quote : quote_by e p b ≡ true → inside_by e stop p (b ∷ s) ≡ suc (outside_by e stop b s)
    unfolding inside_by
    inside_cons_quote q = rw (q, inside_by)

    pub inside_cons_go : quote_by e p b ≡ false → inside_by e stop p (b ∷ s) ≡ suc (inside_by e stop b s)
    unfolding inside_by
    inside_cons_go q = rw (q, inside_by)

  -- what the loops step by
  module _ (s : List ℕ) (i : ℕ) where
    pub outside_end : length s ≤ i → i + outside_by e stop (byte_before s i) (drop i s) ≡ i
    unfolding outside_by
    outside_end h = rw (drop_of_length-le s h) (omega arith)

    pub inside_end : length s ≤ i → i + inside_by e stop (byte_before s i) (drop i s) ≡ i
    unfolding inside_by
    inside_end h = rw (drop_of_length-le s h) (omega arith)

    module _ (h : i < length s) where
      pub outside_quote : quote_at e s i ≡ true → i + outside_by e stop (byte_before s i) (drop i s) ≡ i + 1 + inside_by e stop (byte_before s (i + 1)) (drop (i + 1) s)
      outside_quote q = rw (before_next s i, add-one, drop-cons s i 0 h, outside_cons_quote _ _ _ q) (omega arith)

      pub outside_stop : quote_at e s i ≡ false → stop (drop i s) ≡ true → i + outside_by e stop (byte_before s i) (drop i s) ≡ i
      outside_stop q f = rw (drop-cons s i 0 h, outside_cons_stop _ _ _ q (rw (drop-cons s i 0 h) at f)) (omega arith)

      pub outside_go : quote_at e s i ≡ false → stop (drop i s) ≡ false → i + outside_by e stop (byte_before s i) (drop i s) ≡ i + 1 + outside_by e stop (byte_before s (i + 1)) (drop (i + 1) s)
      outside_go q f = rw (before_next s i, add-one, drop-cons s i 0 h, outside_cons_go _ _ _ q (rw (drop-cons s i 0 h) at f)) (omega arith)

      pub inside_quote : quote_at e s i ≡ true → i + inside_by e stop (byte_before s i) (drop i s) ≡ i + 1 + outside_by e stop (byte_before s (i + 1)) (drop (i + 1) s)
      inside_quote q = rw (before_next s i, add-one, drop-cons s i 0 h, inside_cons_quote _ _ _ q) (omega arith)

      pub inside_go : quote_at e s i ≡ false → i + inside_by e stop (byte_before s i) (drop i s) ≡ i + 1 + inside_by e stop (byte_before s (i + 1)) (drop (i + 1) s)
      inside_go q = rw (before_next s i, add-one, drop-cons s i 0 h, inside_cons_go _ _ _ q) (omega arith)

-- the scan for a comment is that of the definition, and so is the scan for a comma
pub comment_scans : (p : ℕ) (s : List ℕ) → (outside_by true is_comment p s ≡ outside p s) × (inside_by true is_comment p s ≡ inside p s)
unfolding outside_by outside
comment_scans p [] = (refl, refl)
comment_scans p (b ∷ s) = let h = comment_scans b s in rw (h.0, h.1) (refl, refl)

pub comment_scan : (p : ℕ) (s : List ℕ) → outside_by true is_comment p s ≡ outside p s
comment_scan p s = (comment_scans p s).0

pub comment_inside_scan : (p : ℕ) (s : List ℕ) → inside_by true is_comment p s ≡ inside p s
comment_inside_scan p s = (comment_scans p s).1

pub comma_scans : (p : ℕ) (s : List ℕ) → (outside_by false is_comma p s ≡ comma_outside s) × (inside_by false is_comma p s ≡ comma_inside s)
unfolding outside_by comma_outside
comma_scans p [] = (refl, refl)
comma_scans p (b ∷ s) = let h = comma_scans b s in rw (h.0, h.1) (refl, refl)

pub comma_scan : (p : ℕ) (s : List ℕ) → outside_by false is_comma p s ≡ comma_outside s
comma_scan p s = (comma_scans p s).0

pub comma_inside_scan : (p : ℕ) (s : List ℕ) → inside_by false is_comma p s ≡ comma_inside s
comma_inside_scan p s = (comma_scans p s).1
