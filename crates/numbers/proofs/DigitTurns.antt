-- The last digits of a number by one, two, four and so on, in any base. Assumes nothing.
use Rattle.std.proofs.Common.{◌≡◌, ℕ, suc, ◌+◌, ◌-◌, ◌*◌, ◌/◌, ◌%◌, ◌^◌, ◌<◌, ◌≤◌, List, [], ◌∷◌, ◌++◌, sym, ap, ◌∙◌, append_assoc, lt_of_lt_of_le, lt_of_le_of_lt, mod-lt, mod-eq_of_lt, mul_assoc, div-lt_iff_lt-mul, div-le_self, le-mul_of_pos_right, arith}
use native.Mathlib.Nat.{div-add-mod, div-div-eq-div-mul, mul-add-div, mul-add-mod_self_left, mod-mod_of_dvd, dvd-mul_right, one-le-mul}
use Rattle.spec_numbers.specs.Print.{digit, digits, padded}
use Rattle.spec_numbers.proofs.PrintLaws.{padded_one, padded_more, unpadded}

-- what the last of twice as many digits are worth, and those in front of them
module _ (unit n : ℕ) (some : 0 < unit) where
  middle_part : n / unit % unit ≡ n % (unit * unit) / unit
  middle_part =
      let d = n / (unit * unit) in
      let m = n % (unit * unit) in
      let whole : n ≡ unit * (unit * d) + m = sym (div-add-mod n (unit * unit)) ∙ rw mul_assoc in
      let small : m / unit < unit = (div-lt_iff_lt-mul some).1 (mod-lt n (one-le-mul some some)) in
      ap (λ (x : ℕ). x / unit % unit) whole ∙ rw (mul-add-div some (unit * d) m, mul-add-mod_self_left unit d (m / unit), mod-eq_of_lt small)

  last_part : n % unit ≡ n % (unit * unit) % unit
  last_part = sym (mod-mod_of_dvd unit n (dvd-mul_right unit unit))

module _ (base letter fuel : ℕ) where
  -- a number with at least w digits
  abbrev pub at_least : ℕ → ℕ → List ℕ
  at_least w n = padded w (digits base letter fuel n)

  -- `back` gives the `count` digits of a number below `unit`: they are all of it, and what stands behind the front of a number of which
  -- more is written
  pub record Turn (count unit : ℕ) (back : ℕ → List ℕ) : Type 0 where
    pub some : 0 < unit
    pub whole : (n : ℕ) → n < unit → n < base ^ fuel → at_least count n ≡ back n
    pub behind : (w n : ℕ) → (n < unit → w ≤ count → ⊥) → n < base ^ fuel → at_least w n ≡ at_least (w - count) (n / unit) ++ back (n % unit)

  -- behind the front with no zeros in front of all
  pub bare_behind : {count unit : ℕ} {back : ℕ → List ℕ} → Turn count unit back → (n : ℕ) → unit ≤ n → n < base ^ fuel
      → digits base letter fuel n ≡ digits base letter fuel (n / unit) ++ back (n % unit)
  bare_behind {count} {unit} t n h l =
      let e : 0 - count ≡ 0 = omega arith in
      sym (unpadded (digits base letter fuel n)) ∙ (t.behind 0 n (λ a b. omega arith) l ∙ rw (e, unpadded))

  -- twice as many digits
  module _ (count unit : ℕ) {back : ℕ → List ℕ} (one : 0 < count) (t : Turn count unit back) where
    whole_twice : (n : ℕ) → n < unit * unit → n < base ^ fuel → at_least (count + count) n ≡ back (n / unit) ++ back (n % unit)
    whole_twice n h l =
        let e : count + count - count ≡ count = omega arith in
        let q : n / unit < unit = (div-lt_iff_lt-mul t.some).1 h in
        rw (t.behind (count + count) n (λ a b. omega arith) l, e, t.whole (n / unit) q (lt_of_le_of_lt (div-le_self n unit) l))

    behind_twice : (w n : ℕ) → (n < unit * unit → w ≤ count + count → ⊥) → n < base ^ fuel
        → at_least w n ≡ at_least (w - (count + count)) (n / (unit * unit)) ++ (back (n % (unit * unit) / unit) ++ back (n % (unit * unit) % unit))
    behind_twice w n e l =
        let c : w - count - count ≡ w - (count + count) = omega arith in
        let f : n < unit → w ≤ count → ⊥ = λ a b. e (lt_of_lt_of_le a (le-mul_of_pos_right unit t.some)) (omega arith) in
        let g : n / unit < unit → w - count ≤ count → ⊥ = λ a b. e ((div-lt_iff_lt-mul t.some).0 a) (omega arith) in
        rw (t.behind w n f l, t.behind (w - count) (n / unit) g (lt_of_le_of_lt (div-le_self n unit) l), c, div-div-eq-div-mul, middle_part unit n t.some, last_part unit n t.some, append_assoc)

    pub twice : Turn (count + count) (unit * unit) (λ m. back (m / unit) ++ back (m % unit))
    twice = record { some = one-le-mul t.some t.some; whole = whole_twice; behind = behind_twice }

-- one digit
pub one_digit : (base letter k : ℕ) → 0 < base → Turn base letter (suc (suc k)) 1 base (λ d. digit letter d ∷ [])
one_digit base letter k some =
    record {
      some = some;
      whole = λ n h l. padded_one base letter some 1 (suc k) n h (omega arith);
      behind = λ w n e l. padded_more base letter some w k n e l;
    }
