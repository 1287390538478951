-- Laws of the counting writer. Assumes nothing.
use mathlib.Core.Path.{◌≡◌, refl, ap, sym, ◌∙◌}
use mathlib.Core.Bool.{Bool, true, false}
use Prim.Native.Nat.{ℕ, suc, ◌+◌, ◌≤◌, ◌<◌, min}
use native.Mathlib.Nat.{add-zero, add-suc, suc-add}
use native.Mathlib.Omega.{arith}
use mathlib.Core.List.{List, [], ◌∷◌, ◌++◌}
use lib.Dec.{leb}
use borrow.Author.Tests.{leb-true, leb-false}
use lib.ListN.{length, set, take, drop, length-append}
use lib.Seq.{sets, length-sets, sets-eq, set_out}
use Rattle.lists.specs.Write.{put, Put, top}

pub put_length : (l : List ℕ) (i : ℕ) (s : List ℕ) → length (put l i s) ≡ length l
unfolding put
put_length l i s = length-sets l i s

-- two pieces, one after the other, are one piece
put_append : (l : List ℕ) (i : ℕ) (s t : List ℕ) → put (put l i s) (i + length s) t ≡ put l i (s ++ t)
unfolding put
put_append l i [] t = ap (λ (k : ℕ). sets l k t) (add-zero i)
put_append l i (b ∷ s) t = ap (λ (k : ℕ). sets (sets (set l i b) (suc i) s) k t) (add-suc i (length s) ∙ sym (suc-add i (length s))) ∙ put_append (set l i b) (suc i) s t

-- past the end nothing is written
put_past : (l : List ℕ) (i : ℕ) (s : List ℕ) → length l ≤ i → put l i s ≡ l
unfolding put
put_past l i [] h = refl
put_past l i (b ∷ s) h = ap (λ (m : List ℕ). sets m (suc i) s) (set_out l i b h) ∙ put_past l (suc i) s (omega arith)

-- also where the count has stopped at `top`
put_append_top : (l : List ℕ) (i : ℕ) (s t : List ℕ) → length l ≤ top → put (put l i s) (min (i + length s) top) t ≡ put l i (s ++ t)
put_append_top l i s t h = go (leb (i + length s) top) refl
  where
    go : (b : Bool) → leb (i + length s) top ≡ b → put (put l i s) (min (i + length s) top) t ≡ put l i (s ++ t)
    go true e =
        let le : i + length s ≤ top = leb-true _ _ e in
        let m : min (i + length s) top ≡ i + length s = omega arith in
        rw m (put_append l i s t)
    go false e =
        let lt : top < i + length s = leb-false _ _ e in
        let q : length (put l i s) ≡ length l = put_length l i s in
        put_past (put l i s) (min (i + length s) top) t (omega arith) ∙ sym (put_past (put l i s) (i + length s) t (omega arith)) ∙ put_append l i s t

-- where it all fits
pub put_fits : (l : List ℕ) (i : ℕ) (s : List ℕ) → i + length s ≤ length l → put l i s ≡ take i l ++ s ++ drop (i + length s) l
unfolding put
put_fits l i s h = sets-eq s l i h

module _ {out : List ℕ} {at : ℕ} where
  -- a byte that fits, and one that does not
  pub wrote : {b r : ℕ} {out' : List ℕ} → length out ≤ top → r ≡ min (at + 1) top → out' ≡ set out at b → Put out at (b ∷ []) out' r
  unfolding put
  wrote h n e = record { small = h; next = n; bytes = e }

  pub passed : {b r : ℕ} {out' : List ℕ} → length out ≤ top → length out ≤ at → r ≡ min (at + 1) top → out' ≡ out → Put out at (b ∷ []) out' r
  unfolding put
  passed {b} h p n e = record { small = h; next = n; bytes = e ∙ sym (set_out out at b p) }

  -- nothing
  pub wrote_none : length out ≤ top → at ≤ top → Put out at [] out at
  unfolding put
  wrote_none h k = record { small = h; next = omega arith; bytes = refl }

  -- one piece and then another
  pub ◌then◌ : {s t o₁ o₂ : List ℕ} {r₁ r₂ : ℕ} → Put out at s o₁ r₁ → Put o₁ r₁ t o₂ r₂ → Put out at (s ++ t) o₂ r₂
  ◌then◌ {s} {t} p q = record {
    small = p.small;
    next = omega (arith, p.next, q.next, length-append s t);
    bytes = q.bytes ∙ rw (p.bytes, p.next, put_append_top out at s t p.small);
  }

  -- the same piece by another name
  pub same_piece : {s t o₁ : List ℕ} {r₁ : ℕ} → s ≡ t → Put out at s o₁ r₁ → Put out at t o₁ r₁
  same_piece e p = rw e at p

  -- a piece changes no length
  pub kept_length : {s o₁ : List ℕ} {r₁ : ℕ} → Put out at s o₁ r₁ → length o₁ ≡ length out
  kept_length {s} p = rw p.bytes (put_length out at s)

infixl 20 ◌then◌
