-- What one byte of a text that is escaped adds. Assumes nothing.
use mathlib.Core.Path.{◌≡◌, ◌∙◌}
use Prim.Native.Nat.{ℕ, suc, ◌+◌, ◌≤◌, ◌<◌}
use native.Mathlib.Numerals.{add-one}
use mathlib.Core.List.{List, [], ◌∷◌, ◌++◌}
use lib.Dec.{eqb}
use borrow.Author.Tests.{ne_eqb, eqb-true}
use lib.ListN.{length, drop, get_or, drop_of_length-le}
use lib.Seq.{drop-cons}
use Rattle.lists.proofs.Tests.{by_test}
use Rattle.spec_strings.specs.Utf8.{broken, step, bits_after, chars_from}
use Rattle.spec_strings.specs.Escape.{escape_all}
use Rattle.strings.specs.Turns.{whole_text, carried_bits}

-- a byte of a text that is escaped
chars_cons : (st acc b : ℕ) (s : List ℕ) → (step st b ≡ broken → ⊥)
    → escape_all (chars_from st acc (b ∷ s)) ≡ whole_text (step st b) (bits_after st acc b) ++ escape_all (chars_from (step st b) (carried_bits (step st b) (bits_after st acc b)) s)
unfolding chars_from escape_all
chars_cons st acc b s n =
    by_test (eqb (step st b) 0)
    (λ t. rw (t, chars_from, eqb-true (step st b) 0 t))
    (λ t. rw (t, chars_from, ne_eqb (step st b) broken n))

chars_broken : (st acc b : ℕ) (s : List ℕ) → step st b ≡ broken → escape_all (chars_from st acc (b ∷ s)) ≡ []
unfolding chars_from escape_all
chars_broken st acc b s e = rw (chars_from, e)

module _ (s : List ℕ) (i : ℕ) where
  -- a byte that breaks nothing
  pub escape_turn : (st acc : ℕ) {next bits carry : ℕ} → i < length s → next ≡ step st (get_or s i 0) → (next ≡ broken → ⊥) → bits ≡ bits_after st acc (get_or s i 0) → carry ≡ carried_bits next bits
      → escape_all (chars_from st acc (drop i s)) ≡ whole_text next bits ++ escape_all (chars_from next carry (drop (i + 1) s))
  escape_turn st acc h e n q k =
      rw (k, e, q, add-one i, drop-cons s i 0 h) (chars_cons st acc (get_or s i 0) (drop (suc i) s) (λ z. n (e ∙ z)))

  -- a byte that breaks the form ends the text
  pub escape_broken : (st acc : ℕ) → i < length s → step st (get_or s i 0) ≡ broken → escape_all (chars_from st acc (drop i s)) ≡ []
  escape_broken st acc h e = rw (drop-cons s i 0 h) (chars_broken st acc (get_or s i 0) (drop (suc i) s) e)

  -- at the end
  pub escape_end : (st acc : ℕ) → length s ≤ i → escape_all (chars_from st acc (drop i s)) ≡ []
  unfolding chars_from escape_all
  escape_end st acc h = rw (drop_of_length-le s h)
