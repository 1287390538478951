-- Characters stay small: the bits of one begun, whole ones, and so what a text's escape takes. Assumes nothing.
use mathlib.Core.Path.{◌≡◌, refl, ap, sym, ◌∙◌}
use mathlib.Core.Bool.{Bool, true, false}
use Prim.Native.Nat.{ℕ, zero, suc, ◌*◌, ◌^◌, ◌≤◌, ◌<◌}
use native.Mathlib.Omega.{arith}
use mathlib.Core.List.{List, [], ◌∷◌}
use lib.Dec.{eqb}
use borrow.Author.Tests.{eqb-true, eqb-false, ne_eqb, lt-ltb, le-ltb}
use lib.ListN.{length, length-append}
use Rattle.lists.specs.Choice.{pick, either, within}
use Rattle.lists.proofs.Tests.{by_test, by_leb, by_eqb, within_most}
use Rattle.spec_strings.specs.Utf8.{broken, after_lead, after_next, step, lead_bits, bits_after, chars_from}
use Rattle.spec_strings.specs.Escape.{escape_all}
use Rattle.spec_strings.proofs.Utf8Laws.{step_broken, step_ascii, lead_stray, lead_two, lead_three, lead_four, lead_past}
use Rattle.spec_strings.proofs.EscapeLaws.{escape_length}

-- what the bits of a character begun stay below, by the reader's state: six more bits come with each byte
abbrev pub limit : ℕ → ℕ
limit st = pick (eqb st 1) 32768 (pick (either (eqb st 2) (either (eqb st 4) (eqb st 5))) 512 8)

pick_le : (t : Bool) (a b n : ℕ) → a ≤ n → b ≤ n → pick t a b ≤ n
pick_le true a b n h k = h
pick_le false a b n h k = k

-- the largest limit
pub limit_most : (st : ℕ) → limit st ≤ 32768
limit_most st =
    pick_le (eqb st 1) _ _ _ (omega arith) (pick_le (either (eqb st 2) (either (eqb st 4) (eqb st 5))) _ _ _ (omega arith) (omega arith))

-- a step that breaks nothing goes where its byte leads, and the byte is in its range
kept : (t : Bool) (to : ℕ) → (pick t to broken ≡ broken → ⊥) → pick t to broken ≡ to
kept true to h = refl
kept false to h = absurd (h refl)

kept_most : (lo hi b to : ℕ) → (pick (within lo hi b) to broken ≡ broken → ⊥) → b ≤ hi
kept_most lo hi b to h =
    by_test (within lo hi b)
    (within_most lo hi b)
    (λ t. absurd (h (rw t)))

never : {P : Type 0} (t : Bool) (to : ℕ) → pick t (suc to) broken ≡ 0 → P
never true to z = absurd (omega arith)
never false to z = absurd (omega arith)

lead_alone : (after_lead 224 ≡ 4) × (after_lead 237 ≡ 5) × (after_lead 240 ≡ 6) × (after_lead 244 ≡ 7)
unfolding after_lead
lead_alone = (refl, refl, refl, refl)

module _ (b : ℕ) where
  -- a first byte: ASCII, one that fits nowhere, or one of a character of several bytes
  by_lead : {P : Type 0} → (b < 128 → P) → (after_lead b ≡ broken → P) → ((to : ℕ) → after_lead b ≡ suc to → lead_bits b < limit (suc to) → P) → P
  unfolding lead_bits
  by_lead f g k =
      by_leb b 127 (λ h. f (omega arith))
      (λ l. by_leb b 193 (λ h. g (lead_stray b l (omega arith)))
      (λ l₁. by_leb b 223 (λ h. k 0 (lead_two b l₁ (omega arith)) (rw (le-ltb b 128 (omega arith), lt-ltb b 224 (omega arith)) (omega arith)))
      (λ l₂. by_eqb b 224 (λ e. k 3 (ap after_lead e ∙ lead_alone.0) (rw e (omega arith)))
      (λ n₀. by_eqb b 237 (λ e. k 4 (ap after_lead e ∙ lead_alone.1) (rw e (omega arith)))
      (λ n₁. by_leb b 239 (λ h. k 1 (lead_three b (omega arith) (omega arith) n₁) (rw (le-ltb b 128 (omega arith), le-ltb b 224 (omega arith), lt-ltb b 240 (omega arith)) (omega arith)))
      (λ l₃. by_eqb b 240 (λ e. k 5 (ap after_lead e ∙ lead_alone.2) (rw e (omega arith)))
      (λ n₂. by_leb b 243 (λ h. k 2 (lead_four b (omega arith) (omega arith)) (rw (le-ltb b 128 (omega arith), le-ltb b 224 (omega arith), le-ltb b 240 (omega arith)) (omega arith)))
      (λ l₄. by_eqb b 244 (λ e. k 6 (ap after_lead e ∙ lead_alone.3) (rw e (omega arith)))
      (λ n₃. g (lead_past b (omega arith)))))))))))

  lead_small : (step 0 b ≡ broken → ⊥) → (step 0 b ≡ 0 → ⊥) → lead_bits b < limit (step 0 b)
  unfolding step
  lead_small n z = by_lead (λ h. absurd (z (step_ascii b h))) (λ e. absurd (n e)) (λ to e l. rw e l)

  -- the bits of a character begun
  small_bits : (acc st : ℕ) → acc < limit st → (step st b ≡ broken → ⊥) → (step st b ≡ 0 → ⊥) → bits_after st acc b < limit (step st b)
  unfolding step after_next bits_after
  small_bits acc zero h n z = lead_small n z
  small_bits acc (suc zero) h n z = absurd (z (kept (within 128 191 b) 0 n))
  small_bits acc (suc (suc zero)) h n z = rw (kept (within 128 191 b) 1 n) (omega (arith, kept_most 128 191 b 1 n))
  small_bits acc (suc (suc (suc zero))) h n z = rw (kept (within 128 191 b) 2 n) (omega (arith, kept_most 128 191 b 2 n))
  small_bits acc (suc (suc (suc (suc zero)))) h n z = rw (kept (within 160 191 b) 1 n) (omega (arith, kept_most 160 191 b 1 n))
  small_bits acc (suc (suc (suc (suc (suc zero))))) h n z = rw (kept (within 128 159 b) 1 n) (omega (arith, kept_most 128 159 b 1 n))
  small_bits acc (suc (suc (suc (suc (suc (suc zero)))))) h n z = rw (kept (within 144 191 b) 2 n) (omega (arith, kept_most 144 191 b 2 n))
  small_bits acc (suc (suc (suc (suc (suc (suc (suc zero))))))) h n z = rw (kept (within 128 143 b) 2 n) (omega (arith, kept_most 128 143 b 2 n))
  small_bits acc (suc (suc (suc (suc (suc (suc (suc (suc st)))))))) h n z =
      absurd (n (step_broken (suc (suc (suc (suc (suc (suc (suc (suc st)))))))) b (omega arith)))

  -- what a turn carries on: nothing behind a whole character
  pub small_turn : (acc st next : ℕ) → acc < limit st → next ≡ step st b → (next ≡ broken → ⊥) → pick (eqb next 0) 0 (bits_after st acc b) < limit next
  small_turn acc st next h e n =
      by_test (eqb next 0)
      (λ t. rw (t, eqb-true next 0 t) (omega arith))
      (λ t. rw (t, e) (small_bits acc st h (λ q. n (e ∙ q)) (λ q. eqb-false next 0 t (e ∙ q))))

  -- a whole character
  whole_small : (acc st : ℕ) → acc < limit st → step st b ≡ 0 → bits_after st acc b < 2 ^ 21
  unfolding step after_next bits_after lead_bits
  whole_small acc zero h z =
      by_lead (λ l. rw (lt-ltb b 128 l) (omega arith)) (λ e. absurd (omega (arith, sym e ∙ z))) (λ to e l. absurd (omega (arith, sym e ∙ z)))
  whole_small acc (suc zero) h z = omega (arith, kept_most 128 191 b 0 (λ q. omega (arith, sym q ∙ z)))
  whole_small acc (suc (suc zero)) h z = never (within 128 191 b) 0 z
  whole_small acc (suc (suc (suc zero))) h z = never (within 128 191 b) 1 z
  whole_small acc (suc (suc (suc (suc zero)))) h z = never (within 160 191 b) 0 z
  whole_small acc (suc (suc (suc (suc (suc zero))))) h z = never (within 128 159 b) 0 z
  whole_small acc (suc (suc (suc (suc (suc (suc zero)))))) h z = never (within 144 191 b) 1 z
  whole_small acc (suc (suc (suc (suc (suc (suc (suc zero))))))) h z = never (within 128 143 b) 1 z
  whole_small acc (suc (suc (suc (suc (suc (suc (suc (suc st)))))))) h z =
      absurd (omega (arith, sym (step_broken (suc (suc (suc (suc (suc (suc (suc (suc st)))))))) b (omega arith)) ∙ z))

chars_length : (s : List ℕ) (st acc : ℕ) → acc < limit st → length (escape_all (chars_from st acc s)) ≤ 10 * length s
unfolding chars_from escape_all
chars_length [] st acc h = omega arith
chars_length (b ∷ s) st acc h =
    by_eqb (step st b) broken
    (λ e. rw e (omega arith))
    (λ n. by_eqb (step st b) 0
    (λ z. rw (z, length-append) (omega (arith, escape_length (bits_after st acc b) (whole_small b acc st h z), chars_length s 0 0 (omega arith))))
    (λ z. rw (ne_eqb (step st b) 0 z, ne_eqb (step st b) broken n) (omega (arith, chars_length s (step st b) (bits_after st acc b) (small_bits b acc st h n z)))))
