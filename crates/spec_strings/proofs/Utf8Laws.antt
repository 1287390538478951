-- Laws of UTF-8 by states: over an index, over joined texts, and of ASCII. Assumes nothing.
use mathlib.Core.Path.{◌≡◌, refl, ap, sym, ◌∙◌}
use mathlib.Core.Bool.{Bool, true, false}
use Prim.Native.Nat.{ℕ, ◌+◌, ◌≤◌, ◌<◌}
use native.Mathlib.Numerals.{add-one}
use mathlib.Core.List.{List, [], ◌∷◌, ◌++◌}
use lib.Dec.{eqb, ltb}
use native.Mathlib.Omega.{arith}
use borrow.Author.Tests.{ne_eqb, lt-ltb, le-ltb, ltb-true, eqb-true}
use lib.ListN.{length, drop, get_or, drop_of_length-le}
use lib.Seq.{drop-cons}
use Rattle.lists.specs.Scan.{all}
use Rattle.lists.proofs.Tests.{both_left, both_right, within_yes, within_low, within_high}
use Rattle.spec_strings.specs.Utf8.{broken, after_lead, after_next, step, utf8_from, is_utf8, lead_bits, bits_after, chars_from, chars}

-- behind a first byte, by the ranges that are not one byte alone
module _ (b : ℕ) where
  -- a continuation byte, C0 or C1
  pub lead_stray : 128 ≤ b → b < 194 → after_lead b ≡ broken
  unfolding after_lead
  lead_stray l h =
      let n : (k : ℕ) → 194 ≤ k → eqb b k ≡ false = λ k q. ne_eqb b k (λ z. omega arith) in
      rw (le-ltb b 128 l, within_low 194 223 b (omega arith), n 224 (omega arith), n 237 (omega arith), within_low 225 239 b (omega arith), n 240 (omega arith), within_low 241 243 b (omega arith), n 244 (omega arith))

  -- C2 to DF
  pub lead_two : 194 ≤ b → b < 224 → after_lead b ≡ 1
  unfolding after_lead
  lead_two l h = rw (le-ltb b 128 (omega arith), within_yes 194 223 b l (omega arith))

  -- E1 to EF but ED
  pub lead_three : 224 < b → b < 240 → (b ≡ 237 → ⊥) → after_lead b ≡ 2
  unfolding after_lead
  lead_three l h n =
      rw (le-ltb b 128 (omega arith), within_high 194 223 b (omega arith), ne_eqb b 224 (λ z. omega arith), ne_eqb b 237 n, within_yes 225 239 b l (omega arith))

  -- F1 to F3
  pub lead_four : 240 < b → b < 244 → after_lead b ≡ 3
  unfolding after_lead
  lead_four l h =
      rw (le-ltb b 128 (omega arith), within_high 194 223 b (omega arith), ne_eqb b 224 (λ z. omega arith), ne_eqb b 237 (λ z. omega arith), within_high 225 239 b (omega arith), ne_eqb b 240 (λ z. omega arith), within_yes 241 243 b l (omega arith))

  -- F5 and above
  pub lead_past : 244 < b → after_lead b ≡ broken
  unfolding after_lead
  lead_past h =
      let n : (k : ℕ) → k ≤ 244 → eqb b k ≡ false = λ k q. ne_eqb b k (λ z. omega arith) in
      rw (le-ltb b 128 (omega arith), within_high 194 223 b (omega arith), n 224 (omega arith), n 237 (omega arith), within_high 225 239 b (omega arith), n 240 (omega arith), within_high 241 243 b (omega arith), n 244 (omega arith))

-- a byte below 128
abbrev pub ascii : ℕ → Bool
ascii b = ltb b 128

-- a byte below 128 is a character by itself
pub step_ascii : (b : ℕ) → b < 128 → step 0 b ≡ 0
unfolding step after_lead
step_ascii b h = rw (lt-ltb b 128 h)

-- its bits are the byte
pub bits_ascii : (b : ℕ) → b < 128 → bits_after 0 0 b ≡ b
unfolding bits_after lead_bits
bits_ascii b h = rw (lt-ltb b 128 h)

-- what breaks the form is never mended
pub step_broken : (st b : ℕ) → broken ≤ st → step st b ≡ broken
unfolding step after_next
step_broken st b h =
    let n : (k : ℕ) → k < 8 → eqb st k ≡ false = λ k l. ne_eqb st k (λ z. omega arith) in
    rw (n 0 (omega arith), n 1 (omega arith), n 2 (omega arith), n 3 (omega arith), n 4 (omega arith), n 5 (omega arith), n 6 (omega arith), n 7 (omega arith))

-- so the rest of the text does not count
pub utf8_broken : (s : List ℕ) → utf8_from broken s ≡ false
unfolding utf8_from
utf8_broken [] = refl
utf8_broken (b ∷ s) = ap (λ (st : ℕ). utf8_from st s) (step_broken broken b (omega arith)) ∙ utf8_broken s

-- what a loop's invariant steps by
module _ (st : ℕ) (s : List ℕ) (i : ℕ) where
  -- one byte further
  pub utf8_at : {x : ℕ} → i < length s → x ≡ step st (get_or s i 0) → utf8_from st (drop i s) ≡ utf8_from x (drop (i + 1) s)
  unfolding utf8_from
  utf8_at h e = rw (e, add-one i) (ap (utf8_from st) (drop-cons s i 0 h))

  -- at the end
  pub utf8_end : length s ≤ i → utf8_from st (drop i s) ≡ eqb st 0
  unfolding utf8_from
  utf8_end h = rw (drop_of_length-le s h)

  -- an ASCII byte between characters
  pub utf8_skip : st ≡ 0 → i < length s → get_or s i 0 < 128 → utf8_from st (drop i s) ≡ utf8_from st (drop (i + 1) s)
  utf8_skip e h k = utf8_at h (rw e (sym (step_ascii (get_or s i 0) k)))

-- a text that is complete, and another behind it
pub utf8_append : (st : ℕ) (s t : List ℕ) → utf8_from st s ≡ true → utf8_from st (s ++ t) ≡ is_utf8 t
unfolding utf8_from
utf8_append st [] t e = ap (λ (x : ℕ). utf8_from x t) (eqb-true st 0 e)
utf8_append st (b ∷ s) t e = utf8_append (step st b) s t e

-- ASCII text is UTF-8, and its characters are its bytes
pub ascii_utf8 : (s : List ℕ) → all ascii s ≡ true → is_utf8 s ≡ true
unfolding all utf8_from
ascii_utf8 [] e = refl
ascii_utf8 (b ∷ s) e =
    ap (λ (st : ℕ). utf8_from st s) (step_ascii b (ltb-true b 128 (both_left (ascii b) (all ascii s) e)))
    ∙ ascii_utf8 s (both_right (ascii b) (all ascii s) e)

-- its characters are its bytes
pub ascii_chars : (s : List ℕ) → all ascii s ≡ true → chars s ≡ s
unfolding all chars_from
ascii_chars [] e = refl
ascii_chars (b ∷ s) e =
    let h : b < 128 = ltb-true b 128 (both_left (ascii b) (all ascii s) e) in
    let ih : chars s ≡ s = ascii_chars s (both_right (ascii b) (all ascii s) e) in
    rw (step_ascii b h, bits_ascii b h, ih)
