-- The loop that parts numbers by a bound. Assumes nothing.
use mathlib.Core.Path.{◌≡◌, refl, ap, sym, ◌∙◌}
use mathlib.Core.List.{List, [], ◌∷◌, ◌++◌, append-nil}
use Prim.Native.Nat.{ℕ, suc, ◌+◌, ◌-◌, ◌≤◌, ◌<◌}
use native.Mathlib.Numerals.{add-one}
use native.Mathlib.Omega.{arith}
use lib.ListN.{length, take, drop, get_or, set, length-set}
use lib.Seq.{take-suc, take_all, take-suc-set, drop-set-lt, drop-cons}
use Rattle.list_labels.specs.Parts.{below, above}
use Rattle.list_labels.proofs.PartLaws.{below_low, below_high, above_low, above_high, below_append, above_append}

-- i numbers were parted, n of them below the bound
pub record Going (b : ℕ) (a₀ spare₀ a spare : List ℕ) (n i : ℕ) : Type 0 where
  pub fewer : n ≤ i
  pub inside : i ≤ length a₀
  pub length_a : length a ≡ length a₀
  pub length_spare : length spare ≡ length spare₀
  pub left : drop i a ≡ drop i a₀
  pub low : take n a ≡ below b (take i a₀)
  pub high : take (i - n) spare ≡ above b (take i a₀)

pub start : (b : ℕ) (a spare : List ℕ) → Going b a spare a spare 0 0
unfolding below above
start b a spare = record { fewer = omega arith; inside = omega arith; length_a = refl; length_spare = refl; left = refl; low = refl; high = refl }

module _ (b : ℕ) (a₀ spare₀ a spare : List ℕ) (n i : ℕ) (g : Going b a₀ spare₀ a spare n i) (h : i < length a₀) where
  -- the number that is looked at
  pub same_here : get_or a i 0 ≡ get_or a₀ i 0
  same_here =
      let e = drop-cons a i 0 (omega (arith, g.length_a)) in
      let f = drop-cons a₀ i 0 h in
      cc (sym e ∙ (g.left ∙ f))

  same_left : drop (i + 1) a ≡ drop (i + 1) a₀
  same_left =
      let e = drop-cons a i 0 (omega (arith, g.length_a)) in
      let f = drop-cons a₀ i 0 h in
      rw (add-one i) (cc (sym e ∙ (g.left ∙ f)))

  next : take (i + 1) a₀ ≡ take i a₀ ++ (get_or a₀ i 0 ∷ [])
  next = rw (add-one i) (take-suc a₀ i 0 h)

  low_turn : (x : ℕ) → x ≡ get_or a i 0 → x < b → Going b a₀ spare₀ (set a n x) spare (n + 1) (i + 1)
  unfolding below above
  low_turn x e l =
      let q = e ∙ same_here in
      let k : n < length a = omega (arith, g.fewer, g.length_a) in
      let m : (i + 1) - (n + 1) ≡ i - n = omega arith in
      record {
        fewer = omega (arith, g.fewer);
        inside = omega arith;
        length_a = length-set a n x ∙ g.length_a;
        length_spare = g.length_spare;
        left = drop-set-lt (i + 1) a n x (omega (arith, g.fewer)) ∙ same_left;
        low = rw (add-one n) (take-suc-set a n x k ∙ (rw (g.low, next, below_append b (take i a₀) (get_or a₀ i 0 ∷ []), sym q, below_low b x [] l)));
        high = rw (m, g.high, next, above_append b (take i a₀) (get_or a₀ i 0 ∷ []), sym q, above_low b x [] l) (sym (append-nil (above b (take i a₀))));
      }

  high_turn : (x : ℕ) → x ≡ get_or a i 0 → b ≤ x → i - n < length spare → Going b a₀ spare₀ a (set spare (i - n) x) n (i + 1)
  unfolding below above
  high_turn x e l k =
      let q = e ∙ same_here in
      let m : (i + 1) - n ≡ suc (i - n) = omega (arith, g.fewer) in
      record {
        fewer = omega (arith, g.fewer);
        inside = omega arith;
        length_a = g.length_a;
        length_spare = length-set spare (i - n) x ∙ g.length_spare;
        left = same_left;
        low = rw (g.low, next, below_append b (take i a₀) (get_or a₀ i 0 ∷ []), sym q, below_high b x [] l) (sym (append-nil (below b (take i a₀))));
        high = rw m (take-suc-set spare (i - n) x k ∙ (rw (g.high, next, above_append b (take i a₀) (get_or a₀ i 0 ∷ []), sym q, above_high b x [] l)));
      }

  -- a turn, by what the slices are afterwards
  pub turn_low : (x : ℕ) → x ≡ get_or a i 0 → x < b → {a' spare' : List ℕ} {n' : ℕ} → a' ≡ set a n x → spare' ≡ spare → n' ≡ n + 1
      → Going b a₀ spare₀ a' spare' n' (i + 1)
  turn_low x e l p q r = rw (p, q, r) (low_turn x e l)

  pub turn_high : (x : ℕ) → x ≡ get_or a i 0 → b ≤ x → length a₀ ≤ length spare₀ → {a' spare' : List ℕ} {n' : ℕ} → a' ≡ a → spare' ≡ set spare (i - n) x → n' ≡ n
      → Going b a₀ spare₀ a' spare' n' (i + 1)
  turn_high x e l k p q r = rw (p, q, r) (high_turn x e l (omega (arith, g.length_spare, h)))

-- at the end all are parted
module _ (b : ℕ) (a₀ spare₀ a spare : List ℕ) (n i : ℕ) (g : Going b a₀ spare₀ a spare n i) (all_seen : length a₀ ≤ i) where
  pub all_low : take n a ≡ below b a₀
  all_low = g.low ∙ ap (below b) (take_all i a₀ all_seen)

  pub all_high : take (length a₀ - n) spare ≡ above b a₀
  all_high =
      let e : length a₀ ≡ i = omega (arith, g.inside, all_seen) in
      rw e g.high ∙ ap (above b) (take_all i a₀ all_seen)
