-- Laws of the lines of a text, by their places. Assumes nothing.
use mathlib.Core.Path.{◌≡◌, refl, ap, sym, ◌∙◌}
use mathlib.Core.Bool.{Bool, true, false}
use Prim.Native.Nat.{ℕ, zero, suc, ◌+◌, ◌-◌, ◌≤◌, ◌<◌}
use native.Mathlib.Omega.{arith}
use mathlib.Core.List.{List, [], ◌∷◌}
use borrow.Author.Tests.{eq-eqb, ne_eqb, lt-ltb, le-ltb}
use lib.Dec.{eqb, ltb}
use lib.ListN.{length, take, drop, get_or, length-drop, length-take, drop_of_length-le}
use lib.Seq.{drop-drop, get_or-drop}
use Rattle.lists.specs.Choice.{pick, both}
use Rattle.lists.specs.Scan.{run}
use Rattle.lists.proofs.Scans.{run_cons_go, run_cons_stop}
use Rattle.lists.proofs.Tests.{by_eqb, by_leb, both_no_left, both_no_right}
use Rattle.lists.proofs.Parts.{part_rest}
use Rattle.limits.specs.Limits.{line_limit}
use Rattle.spec_hasm.specs.Text.{onto, lines_of}
use Rattle.hasm_read.specs.Quotes.{byte_before}
use Rattle.hasm_read.proofs.QuoteLaws.{before_last}
use Rattle.hasm_read.specs.Lines.{not_feed, line_length, line_in, ShortLines}

-- the clauses of the lines and of their end, each by the bytes that pick it
module _ (b : ℕ) (s : List ℕ) where
  lines_cons_feed : b ≡ 10 → lines_of (b ∷ s) ≡ [] ∷ lines_of s
  unfolding lines_of
  lines_cons_feed e = rw (eq-eqb b 10 e, lines_of)

  lines_cons_return : b ≡ 13 → get_or s 0 0 ≡ 10 → lines_of (b ∷ s) ≡ lines_of s
  unfolding lines_of
  lines_cons_return e f = rw (e, eq-eqb (get_or s 0 0) 10 f, lines_of)

  lines_cons_go : (b ≡ 10 → ⊥) → (b ≡ 13 → get_or s 0 0 ≡ 10 → ⊥) → lines_of (b ∷ s) ≡ onto b (lines_of s)
  unfolding lines_of
  lines_cons_go n m =
      let t : both (eqb b 13) (eqb (get_or s 0 0) 10) ≡ false =
      by_eqb b 13
      (λ e. both_no_right (eqb b 13) (eqb (get_or s 0 0) 10) (ne_eqb (get_or s 0 0) 10 (m e)))
      (λ k. both_no_left (eqb b 13) (eqb (get_or s 0 0) 10) (ne_eqb b 13 k)) in
      rw (ne_eqb b 10 n, t, lines_of)

  feed_here : b ≡ 10 → run not_feed (b ∷ s) ≡ 0
  feed_here e = run_cons_stop not_feed b s (rw (eq-eqb b 10 e))

  feed_later : (b ≡ 10 → ⊥) → run not_feed (b ∷ s) ≡ suc (run not_feed s)
  feed_later n = run_cons_go not_feed b s (rw (ne_eqb b 10 n))

-- a line that an LF ends at once, and one that goes on
feed_first : (s : List ℕ) → 0 < length s → get_or s 0 0 ≡ 10 → run not_feed s ≡ 0
feed_first [] h e = absurd (omega arith)
feed_first (b ∷ s) h e = feed_here b s e

first_feed : (s : List ℕ) → 0 < length s → run not_feed s ≡ 0 → get_or s 0 0 ≡ 10
first_feed [] h e = absurd (omega arith)
first_feed (b ∷ s) h e = by_eqb b 10 (λ f. f) (λ n. absurd (omega (arith, e, feed_later b s n)))

-- a text that an LF opens
open_feed : (s : List ℕ) → 0 < length s → get_or s 0 0 ≡ 10 → lines_of s ≡ [] ∷ lines_of (drop 1 s)
open_feed [] h e = absurd (omega arith)
open_feed (b ∷ s) h e = lines_cons_feed b s e

-- the byte in front of a place, with one byte more before the text
before_more : (b : ℕ) (s : List ℕ) (k : ℕ) → 0 < k → byte_before (b ∷ s) (suc k) ≡ byte_before s k
before_more b s zero h = absurd (omega arith)
before_more b s (suc j) h = refl

-- it is no CR in front of the first
before_inside : (s : List ℕ) (k : ℕ) → byte_before s k ≡ 13 → 0 < k
before_inside s zero e = absurd (let z : ◌≡◌ {A = ℕ} 0 13 = e in omega (arith, z))
before_inside s (suc j) e = omega arith

-- behind the end there is no LF
first_none : (s : List ℕ) → length s < 1 → get_or s 0 0 ≡ 10 → ⊥
first_none [] h e = let z : ◌≡◌ {A = ℕ} 0 10 = e in omega (arith, z)
first_none (b ∷ s) h e = omega arith

-- a byte in front of the first line
more : (b : ℕ) (ls : List (List ℕ)) {ms : List (List ℕ)} {l : List ℕ} → ls ≡ l ∷ ms → onto b ls ≡ (b ∷ l) ∷ ms
unfolding onto
more b ls e = rw e

-- the last line, which no LF ends
last_only : (b : ℕ) (s : List ℕ) → length s < 1 → onto b (lines_of s) ≡ (b ∷ s) ∷ []
unfolding onto lines_of
last_only b [] h = refl
last_only b (c ∷ s) h = absurd (omega arith)

last_line : (t : List ℕ) → 0 < length t → length t ≤ run not_feed t → lines_of t ≡ t ∷ []
last_line [] p h = absurd (omega arith)
last_line (b ∷ s) p h = go (last_line s) (λ e. omega (arith, feed_here b s e))
  where
    go : (0 < length s → length s ≤ run not_feed s → lines_of s ≡ s ∷ []) → (b ≡ 10 → ⊥) → lines_of (b ∷ s) ≡ (b ∷ s) ∷ []
    go ih n =
        by_leb 1 (length s)
        (λ q. lines_cons_go b s n (λ e f. omega (arith, feed_later b s n, feed_first s q f)) ∙ more b (lines_of s) (ih q (omega (arith, feed_later b s n))))
        (λ q. lines_cons_go b s n (λ e f. first_none s q f) ∙ last_only b s q)

-- a line that an LF ends, and one that CR LF ends
bare_line : (t : List ℕ) → run not_feed t < length t → (byte_before t (run not_feed t) ≡ 13 → ⊥)
    → lines_of t ≡ take (run not_feed t) t ∷ lines_of (drop (suc (run not_feed t)) t)
bare_line [] h m = absurd (omega arith)
bare_line (b ∷ s) h m = by_eqb b 10 (λ e. rw (feed_here b s e, lines_cons_feed b s e)) (λ n. go n (feed_later b s n) (bare_line s))
  where
    go : (b ≡ 10 → ⊥) → run not_feed (b ∷ s) ≡ suc (run not_feed s)
        → (run not_feed s < length s → (byte_before s (run not_feed s) ≡ 13 → ⊥) → lines_of s ≡ take (run not_feed s) s ∷ lines_of (drop (suc (run not_feed s)) s))
        → lines_of (b ∷ s) ≡ take (run not_feed (b ∷ s)) (b ∷ s) ∷ lines_of (drop (suc (run not_feed (b ∷ s))) (b ∷ s))
    go n r ih =
        let l : run not_feed s < length s = omega (arith, r, h) in
        let f : b ≡ 13 → get_or s 0 0 ≡ 10 → ⊥ =
        λ e f. m (ap (byte_before (b ∷ s)) (r ∙ ap suc (feed_first s (omega (arith, l)) f)) ∙ e) in
        let i = ih l (λ e. m (ap (byte_before (b ∷ s)) r ∙ before_more b s (run not_feed s) (before_inside s (run not_feed s) e) ∙ e)) in
        lines_cons_go b s n f ∙ more b (lines_of s) i ∙ rw r

return_line : (t : List ℕ) → run not_feed t < length t → byte_before t (run not_feed t) ≡ 13
    → lines_of t ≡ take (run not_feed t - 1) t ∷ lines_of (drop (suc (run not_feed t)) t)
return_line [] h m = absurd (omega arith)
return_line (b ∷ s) h m = by_eqb b 10 (λ e. none e) (λ n. go n (feed_later b s n) (return_line s))
  where
    none : b ≡ 10 → lines_of (b ∷ s) ≡ take (run not_feed (b ∷ s) - 1) (b ∷ s) ∷ lines_of (drop (suc (run not_feed (b ∷ s))) (b ∷ s))
    none e = absurd (let z : ◌≡◌ {A = ℕ} 0 13 = sym (ap (byte_before (b ∷ s)) (feed_here b s e)) ∙ m in omega (arith, z))

    go : (b ≡ 10 → ⊥) → run not_feed (b ∷ s) ≡ suc (run not_feed s)
        → (run not_feed s < length s → byte_before s (run not_feed s) ≡ 13 → lines_of s ≡ take (run not_feed s - 1) s ∷ lines_of (drop (suc (run not_feed s)) s))
        → lines_of (b ∷ s) ≡ take (run not_feed (b ∷ s) - 1) (b ∷ s) ∷ lines_of (drop (suc (run not_feed (b ∷ s))) (b ∷ s))
    go n r ih =
        let l : run not_feed s < length s = omega (arith, r, h) in
        let p : 0 < length s = omega (arith, l) in
        by_eqb (run not_feed s) 0
        (λ z.
        let q : run not_feed (b ∷ s) ≡ 1 = r ∙ ap suc z in
        let e : b ≡ 13 = sym (ap (byte_before (b ∷ s)) q) ∙ m in
        lines_cons_return b s e (first_feed s p z) ∙ open_feed s p (first_feed s p z) ∙ rw q)
        (λ k.
        let q : run not_feed (b ∷ s) - 1 ≡ suc (run not_feed s - 1) = omega (arith, r, k) in
        let w : byte_before s (run not_feed s) ≡ 13 = sym (before_more b s (run not_feed s) (omega (arith, k))) ∙ sym (ap (byte_before (b ∷ s)) r) ∙ m in
        lines_cons_go b s n (λ e f. k (feed_first s p f)) ∙ more b (lines_of s) (ih l w) ∙ rw (q, r))

-- how many bytes a line has: none, as no LF follows, as CR LF follows, as only LF follows
module _ (s : List ℕ) (at end : ℕ) where
  pub length_none : end ≤ at → line_length s at end ≡ 0
  unfolding line_length
  length_none h =
      let t : both (ltb end (length s)) (both (ltb at end) (eqb (get_or s (end - 1) 0) 13)) ≡ false =
      both_no_right (ltb end (length s)) (both (ltb at end) (eqb (get_or s (end - 1) 0) 13)) (rw (le-ltb at end h)) in
      let z : end - at ≡ 0 = omega arith in
      rw (t, z)

  pub length_last : length s ≤ end → line_length s at end ≡ end - at
  unfolding line_length
  length_last h = rw (le-ltb end (length s) h)

  pub length_return : at < end → end < length s → get_or s (end - 1) 0 ≡ 13 → line_length s at end ≡ end - at - 1
  unfolding line_length
  length_return l h e = rw (lt-ltb end (length s) h, lt-ltb at end l, eq-eqb (get_or s (end - 1) 0) 13 e)

  pub length_bare : (get_or s (end - 1) 0 ≡ 13 → ⊥) → line_length s at end ≡ end - at
  unfolding line_length
  length_bare n =
      let t : both (ltb end (length s)) (both (ltb at end) (eqb (get_or s (end - 1) 0) 13)) ≡ false =
      both_no_right (ltb end (length s)) (both (ltb at end) (eqb (get_or s (end - 1) 0) 13))
      (both_no_right (ltb at end) (eqb (get_or s (end - 1) 0) 13) (ne_eqb (get_or s (end - 1) 0) 13 n)) in
      rw t

  length_le : line_length s at end ≤ end - at
  unfolding line_length
  length_le = go (both (ltb end (length s)) (both (ltb at end) (eqb (get_or s (end - 1) 0) 13)))
    where
      go : (t : Bool) → pick t (end - at - 1) (end - at) ≤ end - at
      go true = omega arith
      go false = omega arith

  -- a line is no longer than its place
  pub line_short : length (line_in s at end) ≤ end - at
  line_short = rw length-take (omega (arith, length_le))

-- no line is left behind the end
pub lines_none : (s : List ℕ) (at : ℕ) → length s ≤ at → lines_of (drop at s) ≡ []
unfolding lines_of
lines_none s at h = rw (drop_of_length-le s h)

-- the lines from a place on: the one that stands there, and those behind its end
module _ (s : List ℕ) (at end : ℕ) (h : at < length s) (e : end ≡ at + run not_feed (drop at s)) where
  run_is : run not_feed (drop at s) ≡ end - at
  run_is = omega (arith, e)

  next_is : drop (suc (end - at)) (drop at s) ≡ drop (end + 1) s
  next_is =
      let j : at + suc (end - at) ≡ end + 1 = omega (arith, e) in
      drop-drop (suc (end - at)) at s ∙ ap (λ (i : ℕ). drop i s) j

  before_is : at < end → byte_before (drop at s) (end - at) ≡ get_or s (end - 1) 0
  before_is l =
      let j : at + (end - at - 1) ≡ end - 1 = omega (arith, e) in
      before_last (drop at s) (end - at) (λ z. omega arith) ∙ get_or-drop at s (end - at - 1) 0 ∙ ap (λ (i : ℕ). get_or s i 0) j

  pub line_next : lines_of (drop at s) ≡ line_in s at end ∷ lines_of (drop (end + 1) s)
  line_next =
      by_leb (length s) end
      (λ l.
      last_line (drop at s) (rw length-drop (omega arith)) (rw (length-drop, run_is) (omega arith))
      ∙ rw (length_last s at end l, lines_none s (end + 1) (omega arith), part_rest s at (end - at) (omega arith)))
      (λ l.
      let k : run not_feed (drop at s) < length (drop at s) = rw (length-drop, run_is) (omega (arith, e)) in
      by_eqb (byte_before (drop at s) (end - at)) 13
      (λ c.
      let p : at < end = omega (arith, before_inside (drop at s) (end - at) c) in
      return_line (drop at s) k (ap (byte_before (drop at s)) run_is ∙ c)
      ∙ rw (length_return s at end p l (sym (before_is p) ∙ c), run_is, next_is))
      (λ n.
      bare_line (drop at s) k (λ c. n (sym (ap (byte_before (drop at s)) run_is) ∙ c))
      ∙ rw (bare n, run_is, next_is)))
    where
      bare : (byte_before (drop at s) (end - at) ≡ 13 → ⊥) → line_length s at end ≡ end - at
      bare n =
          by_leb end at
          (λ l. let z : end - at ≡ 0 = omega arith in length_none s at end l ∙ sym z)
          (λ l. length_bare s at end (λ c. n (before_is l ∙ c)))

  -- where all lines from a place on are short, the one that stands there is, and so are those behind its end
  module _ (f : ShortLines (drop at s)) where
    pub short_here : length (line_in s at end) ≤ line_limit
    short_here = rw line_next at (f 0)

    pub short_behind : ShortLines (drop (end + 1) s)
    short_behind i = rw line_next at (f (suc i))
