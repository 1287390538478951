-- What is printed is read back. Assumes nothing.
use mathlib.Core.Path.{◌≡◌, refl, ap, sym, ◌∙◌}
use mathlib.Core.Bool.{Bool, true}
use mathlib.Core.Logic.{◌⊎◌, ⊎_elim}
use mathlib.Core.Logic.◌⊎◌.{inl, inr}
use Prim.Native.Nat.{ℕ, zero, suc, ◌+◌, ◌-◌, ◌*◌, ◌/◌, ◌%◌, ◌^◌, ◌≤◌, ◌<◌}
use native.Mathlib.Nat.{mod-lt, div-add-mod', div-le_self, le_trans}
use native.Mathlib.Omega.{arith}
use mathlib.Core.List.{List, [], ◌∷◌, ◌++◌}
use lib.ListN.{length, get_or, replicate}
use lib.Dec.{leb}
use borrow.Author.Tests.{lt-ltb, le-ltb, le-leb, leb-true}
use Rattle.lists.specs.Scan.{all}
use Rattle.lists.proofs.Tests.{by_leb}
use Rattle.spec_numbers.specs.Print.{digit, digits, padded, decimal, signed_decimal, hex_lower, hex_upper, hex_lower4, hex_upper4, hex_upper16}
use Rattle.spec_numbers.specs.Parse.{digit_value, digits_value, unsigned_value, parse_u32, parse_hex, parse_i32, negated}
use Rattle.spec_numbers.specs.TwosComplement.{signed}
use Rattle.spec_numbers.specs.Parse.Parsed.{is}
use Rattle.spec_numbers.proofs.PrintLaws.{one_power, unpadded, digits_small, digits_more, digits_some, digits_all, quotient_bound, padded_at_least, padded_all, all_first, decimal_every, decimal_some, signed_decimal_lem, minus_decimal}
use Rattle.spec_numbers.proofs.ParseLaws.{value_of_digit, value_of_lower, value_of_upper, value_step, value_append, value_range, unsigned_some, u32_plain, i32_plain, i32_minus, minus_some}

-- the first letter of upper-case or of lower-case digits
abbrev pub Letter : ℕ → Type 0
Letter letter = (letter ≡ 65) ⊎ (letter ≡ 97)

-- a digit is worth what it was printed for
pub digit_back : (letter d : ℕ) → Letter letter → d < 16 → digit_value (digit letter d) ≡ d
unfolding digit
digit_back letter d c h =
    by_leb 10 d
    (λ m. rw (le-ltb d 10 m)
    (⊎_elim
    (λ e. rw e (value_of_upper (65 + (d - 10)) (omega arith) (omega arith) ∙ omega arith))
    (λ e. rw e (value_of_lower (97 + (d - 10)) (omega arith) (omega arith) ∙ omega arith))
    c))
    (λ m. rw (lt-ltb d 10 m) (value_of_digit (48 + d) (omega arith) (omega arith) ∙ omega arith))

module _ (base most letter : ℕ) (some : 0 < base) (few : base ≤ 16) (c : Letter letter) where
  -- one printed digit behind a number that was read
  read_digit : (m d r : ℕ) → d < base → m * base + d ≡ r → r ≤ most → digits_value base most m (digit letter d ∷ []) ≡ is r
  unfolding digits_value
  read_digit m d r h e l =
      let w : digit_value (digit letter d) ≡ d = digit_back letter d c (omega arith) in
      let q : m * base + digit_value (digit letter d) ≡ r = rw w e in
      value_step base most m (digit letter d) [] (omega arith) (omega arith) ∙ ap is q

  -- printed digits are read as the number
  pub digits_back : (k n : ℕ) → n < base ^ suc k → n ≤ most → digits_value base most 0 (digits base letter (suc k) n) ≡ is n
  digits_back zero n h l = rw (digits_small base letter 0 n (one_power base n h)) (read_digit 0 n n (one_power base n h) (omega arith) l)
  digits_back (suc k) n h l =
      by_leb base n
      (λ m.
      let b = digits base letter (suc k) (n / base) in
      let f = digits_back k (n / base) (quotient_bound base (suc k) n some h) (le_trans (div-le_self n base) l) in
      rw (digits_more base letter (suc k) n m)
      (value_append base most 0 (n / base) b (digit letter (n % base) ∷ []) f ∙ read_digit (n / base) (n % base) n (mod-lt n some) (div-add-mod' n base) l))
      (λ m. rw (digits_small base letter (suc k) n m) (read_digit 0 n n m (omega arith) l))

-- zeros in front are worth nothing
pub zeros_back : (base most j : ℕ) (s : List ℕ) → 0 < base → digits_value base most 0 (replicate j 48 ++ s) ≡ digits_value base most 0 s
zeros_back base most zero s h = refl
zeros_back base most (suc j) s h =
    let w : digit_value 48 ≡ 0 = unfold digit_value in refl in
    let q : 0 * base + digit_value 48 ≡ 0 = omega arith in
    value_step base most 0 48 (replicate j 48 ++ s) (omega arith) (omega arith) ∙ rw q (zeros_back base most j s h)

-- so a text reads the same with zeros in front
pub padded_back : (base most w : ℕ) (s : List ℕ) → 0 < base → digits_value base most 0 (padded w s) ≡ digits_value base most 0 s
unfolding padded
padded_back base most w s h = zeros_back base most (w - length s) s h

-- a number printed in any base and with any zeros is read back
pub unsigned_back : (base most letter w k n : ℕ) → 0 < base → base ≤ 16 → Letter letter → n ≤ most → n < base ^ suc k
    → unsigned_value base most (padded w (digits base letter (suc k) n)) ≡ is n
unsigned_back base most letter w k n some few c l h =
    unsigned_some base most (padded w (digits base letter (suc k) n))
    (omega (arith, padded_at_least w (digits base letter (suc k) n), digits_some base letter some k n))
    ∙ padded_back base most w (digits base letter (suc k) n) some
    ∙ digits_back base most letter some few c k n h l

-- decimal text is read back up to any limit
pub unsigned_decimal : (most n : ℕ) → n ≤ most → n < 10 ^ 20 → unsigned_value 10 most (decimal n) ≡ is n
unfolding decimal
unsigned_decimal most n l h = ap (unsigned_value 10 most) (sym (unpadded (digits 10 97 20 n))) ∙ unsigned_back 10 most 97 0 19 n (omega arith) (omega arith) (inr refl) l h

-- the 16 hex digits of a double are read back
pub unsigned_hex16 : (n : ℕ) → n < 2 ^ 64 → unsigned_value 16 (2 ^ 64 - 1) (hex_upper16 n) ≡ is n
unfolding hex_upper16 hex_upper
unsigned_hex16 n h = unsigned_back 16 (2 ^ 64 - 1) 65 16 15 n (omega arith) (omega arith) (inl refl) (omega arith) (omega arith)

-- what holds of every hex digit holds of all that is printed in hexadecimal
pub hex_every : (p : ℕ → Bool) → ((b : ℕ) → digit_value b < 16 → p b ≡ true) → (letter w k n : ℕ) → Letter letter
    → all p (padded w (digits 16 letter k n)) ≡ true
hex_every p f letter w k n c =
    padded_all w p (digits 16 letter k n) (f 48 (rw (value_of_digit 48 (omega arith) (omega arith)) (omega arith)))
    (digits_all 16 letter (omega arith) p (λ d h. f (digit letter d) (rw (digit_back letter d c h) h)) k n)

-- no sign stands in front of printed digits
unsigned_front : (letter w n : ℕ) → Letter letter → 48 ≤ get_or (padded w (digits 16 letter 16 n)) 0 0
unsigned_front letter w n c =
    let s = padded w (digits 16 letter 16 n) in
    leb-true 48 (get_or s 0 0)
    (all_first (leb 48) s (hex_every (leb 48) (λ b h. le-leb 48 b (value_range b h).0) letter w 16 n c)
    (omega (arith, padded_at_least w (digits 16 letter 16 n), digits_some 16 letter (omega arith) 15 n)))

decimal_front : (n : ℕ) → 48 ≤ get_or (decimal n) 0 0
decimal_front n =
    leb-true 48 (get_or (decimal n) 0 0) (all_first (leb 48) (decimal n) (decimal_every (leb 48) (λ b l h. le-leb 48 b l) n) (decimal_some n))

-- a printed u32 is read back
pub parse_decimal : (n : ℕ) → n < 2 ^ 32 → parse_u32 (decimal n) ≡ is n
parse_decimal n h =
    u32_plain 10 (decimal n) (λ e. omega (arith, decimal_front n)) ∙ unsigned_decimal (2 ^ 32 - 1) n (omega arith) (omega arith)

-- a printed i32 is read back, by its bits
pub parse_signed : (b : ℕ) → b < 2 ^ 32 → parse_i32 (signed_decimal (signed 32 b)) ≡ is b
unfolding negated
parse_signed b h =
    by_leb (2 ^ 31) b
    (λ l.
    let m : 2 ^ 32 - (2 ^ 32 - b) ≡ b = omega arith in
    rw (minus_decimal b l h, i32_minus (45 ∷ decimal (2 ^ 32 - b)) refl, unsigned_decimal (2 ^ 31) (2 ^ 32 - b) (omega arith) (omega arith))
    (ap is (minus_some (2 ^ 32 - b) (omega arith) ∙ m)))
    (λ l.
    rw (signed_decimal_lem b l)
    (i32_plain (decimal b) (λ e. omega (arith, decimal_front b)) (λ e. omega (arith, decimal_front b)) ∙ unsigned_decimal (2 ^ 31 - 1) b (omega arith) (omega arith)))

-- a u32 printed in hexadecimal is read back, in either case and with any zeros in front
pub parse_hex_lem : (letter w n : ℕ) → Letter letter → n < 2 ^ 32 → parse_hex (padded w (digits 16 letter 16 n)) ≡ is n
parse_hex_lem letter w n c h =
    u32_plain 16 (padded w (digits 16 letter 16 n)) (λ e. omega (arith, unsigned_front letter w n c))
    ∙ unsigned_back 16 (2 ^ 32 - 1) letter w 15 n (omega arith) (omega arith) c (omega arith) (omega arith)

-- in upper case
pub parse_hex_upper : (n : ℕ) → n < 2 ^ 32 → parse_hex (hex_upper n) ≡ is n
unfolding hex_upper
parse_hex_upper n h = ap parse_hex (sym (unpadded (digits 16 65 16 n))) ∙ parse_hex_lem 65 0 n (inl refl) h

-- in lower case
pub parse_hex_lower : (n : ℕ) → n < 2 ^ 32 → parse_hex (hex_lower n) ≡ is n
unfolding hex_lower
parse_hex_lower n h = ap parse_hex (sym (unpadded (digits 16 97 16 n))) ∙ parse_hex_lem 97 0 n (inr refl) h

-- in upper case, four digits
pub parse_hex_upper4 : (n : ℕ) → n < 2 ^ 32 → parse_hex (hex_upper4 n) ≡ is n
unfolding hex_upper4 hex_upper
parse_hex_upper4 n h = parse_hex_lem 65 4 n (inl refl) h

-- in lower case, four digits
pub parse_hex_lower4 : (n : ℕ) → n < 2 ^ 32 → parse_hex (hex_lower4 n) ≡ is n
unfolding hex_lower4 hex_lower
parse_hex_lower4 n h = parse_hex_lem 97 4 n (inr refl) h
