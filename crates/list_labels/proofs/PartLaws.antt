-- Laws of numbers parted by a bound. Assumes nothing.
use mathlib.Core.Path.{◌≡◌, refl, ap, sym}
use mathlib.Core.Bool.{Bool, true, false}
use mathlib.Core.List.{List, [], ◌∷◌, ◌++◌}
use Prim.Native.Nat.{ℕ, suc, ◌+◌, ◌≤◌, ◌<◌}
use native.Mathlib.Omega.{arith}
use borrow.Author.Tests.{eq-eqb, ne_eqb, lt-ltb, le-ltb}
use lib.Dec.{eqb, ltb}
use lib.ListN.{length, get_or}
use Rattle.lists.specs.Choice.{pick, either}
use Rattle.lists.proofs.Tests.{by_leb}
use Rattle.spec_listing.specs.Labels.{among, different}
use Rattle.list_labels.specs.Parts.{below, above, within, Between}
use Rattle.list_labels.specs.Parts.Between.{none, one}

-- where a number goes
module _ (b x : ℕ) (l : List ℕ) where
  pub below_low : x < b → below b (x ∷ l) ≡ x ∷ below b l
  unfolding below
  below_low h = rw (lt-ltb x b h)

  pub below_high : b ≤ x → below b (x ∷ l) ≡ below b l
  unfolding below
  below_high h = rw (le-ltb x b h)

  pub above_low : x < b → above b (x ∷ l) ≡ above b l
  unfolding above
  above_low h = rw (lt-ltb x b h)

  pub above_high : b ≤ x → above b (x ∷ l) ≡ x ∷ above b l
  unfolding above
  above_high h = rw (le-ltb x b h)

-- the parts of two lists, one behind the other
pub below_append : (b : ℕ) (k l : List ℕ) → below b (k ++ l) ≡ below b k ++ below b l
unfolding below
below_append b [] l = refl
below_append b (x ∷ k) l = go (ltb x b) (below_append b k l)
  where
    go : (p : Bool) → below b (k ++ l) ≡ below b k ++ below b l
        → pick p (x ∷ below b (k ++ l)) (below b (k ++ l)) ≡ pick p (x ∷ below b k) (below b k) ++ below b l
    go true e = ap (λ (r : List ℕ). x ∷ r) e
    go false e = e

pub above_append : (b : ℕ) (k l : List ℕ) → above b (k ++ l) ≡ above b k ++ above b l
unfolding above
above_append b [] l = refl
above_append b (x ∷ k) l = go (ltb x b) (above_append b k l)
  where
    go : (p : Bool) → above b (k ++ l) ≡ above b k ++ above b l
        → pick p (above b (k ++ l)) (x ∷ above b (k ++ l)) ≡ pick p (above b k) (x ∷ above b k) ++ above b l
    go true e = e
    go false e = ap (λ (r : List ℕ). x ∷ r) e

-- all numbers are in one of the two
pub part_lengths : (b : ℕ) (l : List ℕ) → length (below b l) + length (above b l) ≡ length l
unfolding below above
part_lengths b [] = refl
part_lengths b (x ∷ l) = go (ltb x b) (part_lengths b l)
  where
    go : (p : Bool) → length (below b l) + length (above b l) ≡ length l
        → length (pick p (x ∷ below b l) (below b l)) + length (pick p (above b l) (x ∷ above b l)) ≡ suc (length l)
    go true e = omega arith
    go false e = omega arith

-- a number is in the part it belongs to just where it is in the list
pub among_below : (b x : ℕ) (l : List ℕ) → x < b → among x (below b l) ≡ among x l
unfolding among below
among_below b x [] h = refl
among_below b x (y ∷ l) h =
    by_leb b y
    (λ g. rw (below_high b y l g, ne_eqb x y (λ e. omega arith)) (among_below b x l h))
    (λ g. rw (below_low b y l g) (ap (either (eqb x y)) (among_below b x l h)))

pub among_above : (b x : ℕ) (l : List ℕ) → b ≤ x → among x (above b l) ≡ among x l
unfolding among above
among_above b x [] h = refl
among_above b x (y ∷ l) h =
    by_leb b y
    (λ g. rw (above_high b y l g) (ap (either (eqb x y)) (among_above b x l h)))
    (λ g. rw (above_low b y l g, ne_eqb x y (λ e. omega arith)) (among_above b x l h))

-- so the different numbers of the parts add up
pub different_parts : (b : ℕ) (l : List ℕ) → different (below b l) + different (above b l) ≡ different l
unfolding different below above
different_parts b [] = refl
different_parts b (x ∷ l) =
    let h = different_parts b l in
    by_leb b x
    (λ g. rw (below_high b x l g, above_high b x l g) (rw (among_above b x l g) (high (different (below b l)) _ _ h (among x l))))
    (λ g. rw (below_low b x l g, above_low b x l g) (rw (among_below b x l g) (low (different (below b l)) _ _ h (among x l))))
  where
    high : (m n k : ℕ) → m + n ≡ k → (p : Bool) → m + pick p n (suc n) ≡ pick p k (suc k)
    high m n k h true = h
    high m n k h false = omega arith

    low : (m n k : ℕ) → m + n ≡ k → (p : Bool) → pick p m (suc m) + n ≡ pick p k (suc k)
    low m n k h true = h
    low m n k h false = omega arith

-- a part of a part
pub below_below : (a b : ℕ) (l : List ℕ) → a ≤ b → below a (below b l) ≡ below a l
unfolding below
below_below a b [] h = refl
below_below a b (x ∷ l) h =
    by_leb b x
    (λ g. rw (below_high b x l g, below_high a x l (omega arith)) (below_below a b l h))
    (λ g. rw (below_low b x l g)
    (by_leb a x
    (λ k. rw (below_high a x (below b l) k, below_high a x l k) (below_below a b l h))
    (λ k. rw (below_low a x (below b l) k, below_low a x l k) (ap (λ (r : List ℕ). x ∷ r) (below_below a b l h)))))

pub above_above : (a b : ℕ) (l : List ℕ) → a ≤ b → above b (above a l) ≡ above b l
unfolding above
above_above a b [] h = refl
above_above a b (x ∷ l) h =
    by_leb a x
    (λ g. rw (above_high a x l g)
    (by_leb b x
    (λ k. rw (above_high b x (above a l) k, above_high b x l k) (ap (λ (r : List ℕ). x ∷ r) (above_above a b l h)))
    (λ k. rw (above_low b x (above a l) k, above_low b x l k) (above_above a b l h))))
    (λ g. rw (above_low a x l g, above_low b x l (omega arith)) (above_above a b l h))

pub below_above : (a b : ℕ) (l : List ℕ) → below b (above a l) ≡ above a (below b l)
unfolding below above
below_above a b [] = refl
below_above a b (x ∷ l) =
    by_leb a x
    (λ g. rw (above_high a x l g)
    (by_leb b x
    (λ k. rw (below_high b x (above a l) k, below_high b x l k) (below_above a b l))
    (λ k. rw (below_low b x (above a l) k, below_low b x l k, above_high a x (below b l) g) (ap (λ (r : List ℕ). x ∷ r) (below_above a b l)))))
    (λ g. rw (above_low a x l g)
    (by_leb b x
    (λ k. rw (below_high b x l k) (below_above a b l))
    (λ k. rw (below_low b x l k, above_low a x (below b l) g) (below_above a b l))))

-- the different numbers of a range are those of its halves
pub different_halves : (low mid high : ℕ) (l : List ℕ) → low ≤ mid → mid ≤ high → different (within low mid l) + different (within mid high l) ≡ different (within low high l)
different_halves low mid high l h k =
    rw (sym (ap (above low) (below_below mid high l k)), sym (below_above low mid (below high l)), sym (above_above low mid (below high l) h))
    (different_parts mid (within low high l))

-- numbers that are all below a bound
pub below_all : (high : ℕ) {l : List ℕ} → Between 0 high l → below high l ≡ l
unfolding below
below_all high none = refl
below_all high (one {x} {xs = l} a b r) = rw (below_low high x l b) (ap (λ (k : List ℕ). x ∷ k) (below_all high r))

pub between_append : (low high : ℕ) {k l : List ℕ} → Between low high k → Between low high l → Between low high (k ++ l)
between_append low high none m = m
between_append low high (one a b r) m = one a b (between_append low high r m)

-- the numbers of a range are of it
pub within_between : (low high : ℕ) (l : List ℕ) → Between low high (within low high l)
unfolding below above
within_between low high [] = none
within_between low high (x ∷ l) =
    by_leb high x
    (λ g. rw (below_high high x l g) (within_between low high l))
    (λ g. rw (below_low high x l g)
    (by_leb low x
    (λ k. rw (above_high low x (below high l) k) (one k g (within_between low high l)))
    (λ k. rw (above_low low x (below high l) k) (within_between low high l))))

-- the parts of a range
pub between_below : (low mid high : ℕ) {l : List ℕ} → Between low high l → Between low mid (below mid l)
unfolding below
between_below low mid high none = none
between_below low mid high (one {x} {xs = l} a b r) =
    by_leb mid x
    (λ g. rw (below_high mid x l g) (between_below low mid high r))
    (λ g. rw (below_low mid x l g) (one a g (between_below low mid high r)))

pub between_above : (low mid high : ℕ) {l : List ℕ} → Between low high l → Between mid high (above mid l)
unfolding above
between_above low mid high none = none
between_above low mid high (one {x} {xs = l} a b r) =
    by_leb mid x
    (λ g. rw (above_high mid x l g) (one g b (between_above low mid high r)))
    (λ g. rw (above_low mid x l g) (between_above low mid high r))

-- where every element is below a bound
pub between_all : (high : ℕ) (l : List ℕ) → ((i : ℕ) → get_or l i 0 < high) → Between 0 high l
between_all high [] h = none
between_all high (x ∷ l) h = one {x = x} (omega arith) (h 0) (between_all high l (λ i. h (suc i)))

-- fewer than two numbers, and numbers of a range that holds one only
pub different_few : (l : List ℕ) → length l < 2 → different l ≡ length l
unfolding different among
different_few [] h = refl
different_few (x ∷ []) h = refl
different_few (x ∷ y ∷ l) h = absurd (omega arith)

equal : (low high : ℕ) (x : ℕ) {l : List ℕ} → high < low + 2 → low ≤ x → x < high → Between low high l → different (x ∷ l) ≡ 1
unfolding different among
equal low high x h a b none = refl
equal low high x h a b (one {x = y} {xs = l} c d r) =
    let e : x ≡ y = omega arith in
    rw (eq-eqb x y e) (equal low high y h c d r)

pub different_one : (low high : ℕ) {l : List ℕ} → high < low + 2 → 2 ≤ length l → Between low high l → different l ≡ 1
different_one low high h n none = absurd (omega arith)
different_one low high h n (one a b r) = equal low high _ h a b r
