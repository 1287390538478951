-- What one byte of a text that is read back adds. Assumes nothing.
use mathlib.Core.Path.{◌≡◌, refl}
use mathlib.Core.Bool.{Bool, true, false}
use Prim.Native.Nat.{ℕ, suc, ◌+◌, ◌≤◌, ◌<◌}
use native.Mathlib.Numerals.{add-one}
use mathlib.Core.List.{List, [], ◌∷◌, ◌++◌}
use lib.Dec.{eqb}
use lib.ListN.{length, drop, get_or, drop_of_length-le}
use lib.Seq.{drop-cons}
use Rattle.lists.proofs.Tests.{by_test}
use Rattle.spec_strings.specs.Escape.{unescape}
use Rattle.strings.specs.ReadTurns.{read_text, slash_after}

-- a byte of a text that is read back
read_cons : (slash : Bool) (b : ℕ) (s : List ℕ) → unescape slash (b ∷ s) ≡ read_text slash b ++ unescape (slash_after slash b) s
unfolding unescape
read_cons true b s = refl
read_cons false b s = by_test (eqb b 92) (λ t. rw (t, unescape)) (λ t. rw (t, unescape))

module _ (s : List ℕ) (i : ℕ) where
  -- one byte further
  pub read_turn : (slash : Bool) {next : Bool} → i < length s → next ≡ slash_after slash (get_or s i 0)
      → unescape slash (drop i s) ≡ read_text slash (get_or s i 0) ++ unescape next (drop (i + 1) s)
  read_turn slash h e = rw (e, add-one i, drop-cons s i 0 h) (read_cons slash (get_or s i 0) (drop (suc i) s))

  -- at the end
  pub read_end : (slash : Bool) → length s ≤ i → unescape slash (drop i s) ≡ []
  unfolding unescape
  read_end slash h = rw (drop_of_length-le s h)
