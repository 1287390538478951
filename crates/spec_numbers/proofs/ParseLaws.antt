-- Laws of reading a number, clause by clause and at an index. Assumes nothing.
use mathlib.Core.Path.{◌≡◌, refl, sym, ◌∙◌}
use mathlib.Core.Bool.{Bool, true, false}
use Prim.Native.Nat.{ℕ, zero, suc, ◌+◌, ◌-◌, ◌*◌, ◌^◌, ◌≤◌, ◌<◌}
use native.Mathlib.Numerals.{add-one}
use native.Mathlib.Omega.{arith}
use mathlib.Core.List.{List, [], ◌∷◌, ◌++◌}
use lib.ListN.{length, drop, get_or, drop_of_length-le}
use lib.Seq.{drop-cons}
use lib.Dec.{ltb, leb}
use borrow.Author.Tests.{lt-ltb, le-ltb, le-leb, lt-leb, eq-eqb, ne_eqb, ltb-true, leb-true}
use Rattle.lists.specs.Choice.{both}
use Rattle.lists.proofs.Tests.{by_leb, by_eqb, both_left, both_right}
use Rattle.spec_numbers.specs.Parse.{Parsed, digit_value, digits_value, unsigned_value, parse_u32_in, parse_i32, negated, minus}
use Rattle.spec_numbers.specs.Parse.Parsed.{is, bad}
use Rattle.spec_numbers.specs.TwosComplement.{unsigned}

-- what a byte is worth, for each kind of digit
module _ (b : ℕ) where
  -- of `0` to `9`
  pub value_of_digit : 48 ≤ b → b ≤ 57 → digit_value b ≡ b - 48
  unfolding digit_value
  value_of_digit l h = rw (le-leb 48 b l, le-leb b 57 h)

  -- of `a` to `f`
  pub value_of_lower : 97 ≤ b → b ≤ 102 → digit_value b ≡ b - 87
  unfolding digit_value
  value_of_lower l h = rw (le-leb 48 b (omega arith), lt-leb b 57 (omega arith), le-leb 97 b l, le-leb b 102 h)

  -- of `A` to `F`
  pub value_of_upper : 65 ≤ b → b ≤ 70 → digit_value b ≡ b - 55
  unfolding digit_value
  value_of_upper l h = rw (le-leb 48 b (omega arith), lt-leb b 57 (omega arith), lt-leb 97 b (omega arith), le-leb 65 b l, le-leb b 70 h)

-- a byte that is a digit of any kind stands between `0` and `f`
pub value_range : (b : ℕ) → digit_value b < 16 → (48 ≤ b) × (b ≤ 102)
unfolding digit_value
value_range b h = (
  by_leb 48 b (λ l. l)
      (λ l. absurd (let q : 16 < 16 = rw (lt-leb 48 b l, lt-leb 97 b (omega arith), lt-leb 65 b (omega arith)) at h in omega arith)),
  by_leb b 102 (λ l. l)
      (λ l. absurd (let q : 16 < 16 = rw (le-leb 48 b (omega arith), lt-leb b 57 (omega arith), le-leb 97 b (omega arith), lt-leb b 102 l, le-leb 65 b (omega arith), lt-leb b 70 (omega arith)) at h in omega arith)),
)

module _ (base most n : ℕ) where
  -- a byte more
  module _ (b : ℕ) (s : List ℕ) where
    -- a digit more
    pub value_step : digit_value b < base → n * base + digit_value b ≤ most → digits_value base most n (b ∷ s) ≡ digits_value base most (n * base + digit_value b) s
    unfolding digits_value
    value_step h l = rw (lt-ltb (digit_value b) base h, le-leb (n * base + digit_value b) most l, digits_value)

    -- a byte that is no digit of the base
    pub value_none : base ≤ digit_value b → digits_value base most n (b ∷ s) ≡ bad
    unfolding digits_value
    value_none h = rw (le-ltb (digit_value b) base h, digits_value)

    -- a number that grows too large
    pub value_over : digit_value b < base → most < n * base + digit_value b → digits_value base most n (b ∷ s) ≡ bad
    unfolding digits_value
    value_over h l = rw (lt-ltb (digit_value b) base h, lt-leb (n * base + digit_value b) most l, digits_value)

  -- the same at an index
  pub value_at : (s : List ℕ) (i : ℕ) → i < length s → digits_value base most n (drop i s) ≡ digits_value base most n (get_or s i 0 ∷ drop (i + 1) s)
  value_at s i h = rw (add-one, drop-cons s i 0)

  -- nothing is left to read
  pub value_end : (s : List ℕ) (i : ℕ) → length s ≤ i → digits_value base most n (drop i s) ≡ is n
  unfolding digits_value
  value_end s i h = rw (drop_of_length-le s h)

-- a turn of the loop that reads: n was read before index i, and the byte there is worth d
pub record Turn (base most n d : ℕ) (s : List ℕ) («from» i : ℕ) : Type 0 where
  pub inside : i < length s
  pub worth : d ≡ digit_value (get_or s i 0)
  pub whole : digits_value base most 0 (drop «from» s) ≡ digits_value base most n (drop i s)

module _ {base most n d : ℕ} {s : List ℕ} {«from» i : ℕ} (t : Turn base most n d s «from» i) where
  -- a byte that is no digit ends the reading
  pub turn_none : base ≤ d → digits_value base most 0 (drop «from» s) ≡ bad
  turn_none l = t.whole ∙ value_at base most n s i t.inside ∙ value_none base most n (get_or s i 0) (drop (i + 1) s) (rw t.worth at l)

  -- so does a number that grows too large
  pub turn_over : d < base → most < n * base + d → digits_value base most 0 (drop «from» s) ≡ bad
  turn_over l o =
      t.whole ∙ value_at base most n s i t.inside
      ∙ value_over base most n (get_or s i 0) (drop (i + 1) s) (rw t.worth at l) (rw t.worth at o)

  -- any other digit carries it on
  pub turn_step : d < base → n * base + d ≤ most → digits_value base most 0 (drop «from» s) ≡ digits_value base most (n * base + d) (drop (i + 1) s)
  turn_step l o =
      t.whole ∙ value_at base most n s i t.inside
      ∙ value_step base most n (get_or s i 0) (drop (i + 1) s) (rw t.worth at l) (rw t.worth at o)
      ∙ rw t.worth

module _ (base most : ℕ) where
  -- a text of one digit that reads as a number takes the step
  read_one : (n m b : ℕ) (s : List ℕ) → digits_value base most n (b ∷ s) ≡ is m
      → both (ltb (digit_value b) base) (leb (n * base + digit_value b) most) ≡ true
  unfolding digits_value
  read_one n m b s e = go (both (ltb (digit_value b) base) (leb (n * base + digit_value b) most)) e
    where
      go : (f : Bool) → elim f as (λ x. Parsed) [ true ↦ digits_value base most (n * base + digit_value b) s | false ↦ bad ] ≡ is m → f ≡ true
      go true e = refl
      go false e = absurd (let z : ◌≡◌ {A = ℕ} 0 1 = cc e in omega arith)

  -- what a number that was read is made of: a digit that is one, a number that is not too large, and the rest
  pub read_cons : {P : Type 0} (n m b : ℕ) (s : List ℕ) → digits_value base most n (b ∷ s) ≡ is m
      → (digit_value b < base → n * base + digit_value b ≤ most → digits_value base most (n * base + digit_value b) s ≡ is m → P) → P
  read_cons n m b s e f =
      let t = read_one n m b s e in
      let h = ltb-true (digit_value b) base (both_left (ltb (digit_value b) base) (leb (n * base + digit_value b) most) t) in
      let l = leb-true (n * base + digit_value b) most (both_right (ltb (digit_value b) base) (leb (n * base + digit_value b) most) t) in
      f h l (sym (value_step base most n b s h l) ∙ e)

  -- reading on behind what was read
  pub value_append : (n m : ℕ) (s t : List ℕ) → digits_value base most n s ≡ is m → digits_value base most n (s ++ t) ≡ digits_value base most m t
  value_append n m [] t e = let q : n ≡ m = unfold digits_value in cc e in rw q
  value_append n m (b ∷ s) t e =
      read_cons n m b s e (λ h l r. value_step base most n b (s ++ t) h l ∙ value_append (n * base + digit_value b) m s t r)

  -- no number past `most` is read
  pub value_bound : (n m : ℕ) (s : List ℕ) → n ≤ most → digits_value base most n s ≡ is m → m ≤ most
  value_bound n m [] h e = let q : n ≡ m = unfold digits_value in cc e in omega arith
  value_bound n m (b ∷ s) h e = read_cons n m b s e (λ g l r. value_bound (n * base + digit_value b) m s l r)

  -- also where one digit or more is asked for
  pub unsigned_bound : (m : ℕ) (s : List ℕ) → unsigned_value base most s ≡ is m → m ≤ most
  unfolding unsigned_value
  unsigned_bound m [] e = absurd (let z : ◌≡◌ {A = ℕ} 0 1 = cc e in omega arith)
  unsigned_bound m (b ∷ s) e = value_bound 0 m (b ∷ s) (omega arith) e

  -- a text that is not empty is read by its digits
  pub unsigned_some : (s : List ℕ) → 0 < length s → unsigned_value base most s ≡ digits_value base most 0 s
  unfolding unsigned_value
  unsigned_some [] h = absurd (omega arith)
  unsigned_some (b ∷ s) h = refl

  -- an empty text is no number
  pub unsigned_none : (s : List ℕ) → length s ≤ 0 → unsigned_value base most s ≡ bad
  unfolding unsigned_value
  unsigned_none [] h = refl
  unsigned_none (b ∷ s) h = absurd (omega arith)

-- a u32: an empty text, one with a `+`, and one without
pub u32_none : (base : ℕ) (s : List ℕ) → length s ≡ 0 → parse_u32_in base s ≡ bad
unfolding parse_u32_in
u32_none base [] h = refl
u32_none base (b ∷ s) h = absurd (omega arith)

pub u32_plus : (base : ℕ) (s : List ℕ) → get_or s 0 0 ≡ 43 → parse_u32_in base s ≡ unsigned_value base (2 ^ 32 - 1) (drop 1 s)
unfolding parse_u32_in unsigned_value
u32_plus base [] e = refl
u32_plus base (b ∷ s) e = rw (eq-eqb b 43 e, parse_u32_in)

pub u32_plain : (base : ℕ) (s : List ℕ) → (get_or s 0 0 ≡ 43 → ⊥) → parse_u32_in base s ≡ unsigned_value base (2 ^ 32 - 1) s
unfolding parse_u32_in unsigned_value
u32_plain base [] e = refl
u32_plain base (b ∷ s) e = rw (ne_eqb b 43 e, parse_u32_in)

-- what is read as a u32 is one
pub u32_bound : (base m : ℕ) (s : List ℕ) → parse_u32_in base s ≡ is m → m < 2 ^ 32
u32_bound base m s e =
    by_eqb (get_or s 0 0) 43
    (λ q. omega (arith, unsigned_bound base (2 ^ 32 - 1) m (drop 1 s) (sym (u32_plus base s q) ∙ e)))
    (λ q. omega (arith, unsigned_bound base (2 ^ 32 - 1) m s (sym (u32_plain base s q) ∙ e)))

-- an i32: an empty text, one with a `-`, one with a `+`, and one with neither
pub i32_none : (s : List ℕ) → length s ≡ 0 → parse_i32 s ≡ bad
unfolding parse_i32
i32_none [] h = refl
i32_none (b ∷ s) h = absurd (omega arith)

pub i32_minus : (s : List ℕ) → get_or s 0 0 ≡ 45 → parse_i32 s ≡ negated (unsigned_value 10 (2 ^ 31) (drop 1 s))
unfolding parse_i32 unsigned_value negated
i32_minus [] e = refl
i32_minus (b ∷ s) e = rw (eq-eqb b 45 e, parse_i32)

pub i32_plus : (s : List ℕ) → get_or s 0 0 ≡ 43 → parse_i32 s ≡ unsigned_value 10 (2 ^ 31 - 1) (drop 1 s)
unfolding parse_i32 unsigned_value
i32_plus [] e = refl
i32_plus (b ∷ s) e = rw (ne_eqb b 45 (omega arith), eq-eqb b 43 e, parse_i32)

pub i32_plain : (s : List ℕ) → (get_or s 0 0 ≡ 45 → ⊥) → (get_or s 0 0 ≡ 43 → ⊥) → parse_i32 s ≡ unsigned_value 10 (2 ^ 31 - 1) s
unfolding parse_i32 unsigned_value
i32_plain [] d e = refl
i32_plain (b ∷ s) d e = rw (ne_eqb b 45 d, ne_eqb b 43 e, parse_i32)

-- the bits of minus a number
pub minus_some : (n : ℕ) → 0 < n → unsigned 32 (minus n) ≡ 2 ^ 32 - n
unfolding minus
minus_some zero h = absurd (omega arith)
minus_some (suc n) h = refl

-- they are 32 bits
pub minus_bound : (n : ℕ) → unsigned 32 (minus n) < 2 ^ 32
unfolding minus
minus_bound zero = omega arith
minus_bound (suc n) = omega arith

negated_bound : (p : Parsed) (m : ℕ) → negated p ≡ is m → m < 2 ^ 32
unfolding negated
negated_bound (is n) m e = let q : unsigned 32 (minus n) ≡ m = cc e in rw q at (minus_bound n)
negated_bound bad m e = absurd (let z : ◌≡◌ {A = ℕ} 0 1 = cc e in omega arith)

-- what is read as an i32 has 32 bits
pub i32_bound : (m : ℕ) (s : List ℕ) → parse_i32 s ≡ is m → m < 2 ^ 32
i32_bound m s e =
    by_eqb (get_or s 0 0) 45
    (λ d. negated_bound (unsigned_value 10 (2 ^ 31) (drop 1 s)) m (sym (i32_minus s d) ∙ e))
    (λ d.
    by_eqb (get_or s 0 0) 43
    (λ q. omega (arith, unsigned_bound 10 (2 ^ 31 - 1) m (drop 1 s) (sym (i32_plus s q) ∙ e)))
    (λ q. omega (arith, unsigned_bound 10 (2 ^ 31 - 1) m s (sym (i32_plain s d q) ∙ e))))
