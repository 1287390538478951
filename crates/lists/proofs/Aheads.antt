-- Laws of writing ahead: bytes behind a piece are written over by the next one. Assumes nothing.
use mathlib.Core.Path.{◌≡◌, refl, ap, sym, ◌∙◌}
use mathlib.Core.List.{List, [], ◌∷◌, ◌++◌, append_assoc, append-nil}
use Prim.Native.Nat.{ℕ, suc, ◌+◌, ◌-◌, ◌≤◌, ◌<◌, min}
use native.Mathlib.Omega.{arith}
use lib.ListN.{length, set, take, drop, length-append, length-drop}
use lib.Seq.{sets, set-set, set_comm, take-set-le, take_at, length-take-le}
use Rattle.lists.specs.Write.{put, Put, Ahead, ByWords, top}
use Rattle.lists.proofs.Writes.{◌then◌, put_length, put_fits}

-- a second piece behind a first
put_on : (out s t : List ℕ) (at k : ℕ) → length out ≤ top → k ≡ min (at + length s) top → put (put out at s) k t ≡ put out at (s ++ t)
put_on out s t at k h e =
    let p : Put out at s (put out at s) k = record { small = h; next = e; bytes = refl } in
    let q : Put (put out at s) k t (put (put out at s) k t) (min (k + length t) top) = record { small = omega (arith, put_length out at s); next = refl; bytes = refl } in
    (p then q).bytes

-- an earlier element may be set first
set_first : (l : List ℕ) (i j : ℕ) (b : ℕ) (s : List ℕ) → i < j → set (sets l j s) i b ≡ sets (set l i b) j s
set_first l i j b [] h = refl
set_first l i j b (a ∷ s) h = set_first (set l j a) i (suc j) b s (omega arith) ∙ ap (λ (m : List ℕ). sets m (suc j) s) (set_comm l j i a b (λ e. omega arith))

-- a second piece over a first
put_over : (out : List ℕ) (k : ℕ) (s t : List ℕ) → put (put out k s) k t ≡ put out k (t ++ drop (length t) s)
unfolding put
put_over out k s [] = refl
put_over out k [] (b ∷ t) = ap (λ (m : List ℕ). sets (set out k b) (suc k) m) (sym (append-nil t))
put_over out k (a ∷ s) (b ∷ t) =
    ap (λ (m : List ℕ). sets m (suc k) t) (set_first (set out k a) k (suc k) b s (omega arith) ∙ ap (λ (m : List ℕ). sets m (suc k) s) (set-set out k a b))
    ∙ put_over (set out k b) (suc k) s t

-- what stands in front of a piece stays
put_front : (out : List ℕ) (k n : ℕ) (s : List ℕ) → n ≤ k → take n (put out k s) ≡ take n out
unfolding put
put_front out k n [] h = refl
put_front out k n (b ∷ s) h = put_front (set out k b) (suc k) n s (omega arith) ∙ take-set-le n out k b h

module _ {out : List ℕ} {at : ℕ} where
  -- one piece and then another, which goes over what is behind the first
  pub ◌and_then◌ : {s t o₁ o₂ : List ℕ} {d e r₁ r₂ : ℕ} → Ahead out at s d o₁ r₁ → (Ahead o₁ r₁ t e o₂ r₂) × (d - length t ≤ e) → Ahead out at (s ++ t) e o₂ r₂
  ◌and_then◌ {s} {t} {o₁} {o₂} {d} {e} {r₁} p (q, h) =
      let m = t ++ q.behind in
      let n = length-append t q.behind in
      record {
        small = p.small;
        next = omega (arith, p.next, q.next, length-append s t);
        behind = q.behind ++ drop (length m) p.behind;
        few = omega (arith, h, n, p.few, q.few, length-append q.behind (drop (length m) p.behind), length-drop (length m) p.behind);
        bytes = q.bytes
            ∙ (ap (λ (o : List ℕ). put o r₁ m) (p.bytes ∙ sym (put_on out s p.behind at r₁ p.small p.next))
            ∙ (put_over (put out at s) r₁ p.behind m
            ∙ (put_on out s (m ++ drop (length m) p.behind) at r₁ p.small p.next
            ∙ ap (put out at) (rw (append_assoc t q.behind (drop (length m) p.behind)) (sym (append_assoc s t _))))));
      }

  -- nothing is written ahead
  pub not_ahead : {s o : List ℕ} {r : ℕ} → Put out at s o r → Ahead out at s 0 o r
  not_ahead {s} p = record { small = p.small; next = p.next; behind = []; few = omega arith; bytes = p.bytes ∙ ap (put out at) (sym (append-nil s)) }

  pub none_ahead : {s o : List ℕ} {r : ℕ} → Ahead out at s 0 o r → Put out at s o r
  none_ahead {s} {o} p = record { small = p.small; next = p.next; bytes = go p.behind p.few p.bytes }
    where
      go : (b : List ℕ) → length b ≤ 0 → o ≡ put out at (s ++ b) → o ≡ put out at s
      go [] h e = e ∙ ap (put out at) (append-nil s)
      go (a ∷ b) h e = absurd (omega arith)

  -- more room behind
  pub more_ahead : {s o : List ℕ} {d e r : ℕ} → d ≤ e → Ahead out at s d o r → Ahead out at s e o r
  more_ahead h p = record { small = p.small; next = p.next; behind = p.behind; few = omega (arith, p.few); bytes = p.bytes }

  pub ahead_length : {s o : List ℕ} {d r : ℕ} → Ahead out at s d o r → length o ≡ length out
  ahead_length {s} p = rw p.bytes (put_length out at (s ++ p.behind))

  -- one piece by words and then another
  pub ◌and_words◌ : {s t o₁ o₂ : List ℕ} {r₁ r₂ : ℕ} → ByWords out at s o₁ r₁ → ByWords o₁ r₁ t o₂ r₂ → ByWords out at (s ++ t) o₂ r₂
  ◌and_words◌ p q = ◌and_then◌ p (q, omega arith)

  pub as_words : {s o : List ℕ} {r : ℕ} → Put out at s o r → ByWords out at s o r
  as_words p = more_ahead (omega arith) (not_ahead p)

  -- what stands in front of the next position, where the piece fits
  pub ahead_front : {s o : List ℕ} {d r : ℕ} → Ahead out at s d o r → at + length s ≤ length out → take r o ≡ take at out ++ s
  ahead_front {s} {o} {d} {r} p h =
      let n : r ≡ at + length s = omega (arith, p.next, p.small) in
      let e : length (take at out ++ s) ≡ r = omega (arith, length-append (take at out) s, length-take-le at out (omega arith)) in
      ap (take r) (p.bytes ∙ sym (put_on out s p.behind at r p.small p.next))
      ∙ (put_front (put out at s) r r p.behind (omega arith)
      ∙ (ap (take r) (put_fits out at s h)
      ∙ take_at (take at out ++ s) (drop (at + length s) out) r e))

  -- the same piece by another name
  pub same_ahead : {s t o : List ℕ} {d r : ℕ} → s ≡ t → Ahead out at s d o r → Ahead out at t d o r
  same_ahead e p = rw e at p

infixl 20 ◌and_then◌
infixl 20 ◌and_words◌
