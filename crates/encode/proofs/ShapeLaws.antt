-- The pairs of a record, one after the other. Assumes nothing.
use mathlib.Core.Path.{◌≡◌, ap, ◌∙◌}
use mathlib.Core.Bool.{Bool, true, false}
use mathlib.Core.List.{List}
use Prim.Native.Nat.{ℕ, zero, suc, ◌+◌, ◌-◌, ◌*◌, ◌<◌}
use native.Mathlib.Omega.{arith}
use lib.Dec.{eqb, leb}
use lib.ListN.{drop, get_or}
use lib.Seq.{drop-drop, get_or-drop}
use Rattle.lists.specs.Choice.{pick, both}
use borrow.Author.Tests.{eqb-true, ne_eqb}
use Rattle.lists.proofs.Parts.{part_at}
use Rattle.lists.proofs.Tests.{both_left, both_right}
use Rattle.spec_body.specs.Encode.{good_pair, good_pairs, good_shape}
use Rattle.encode.specs.RecordPlaces.{record_at, pairs_at}

-- the words of pair i
module _ (words : List ℕ) (at i p : ℕ) (e : p ≡ at + 4 + 2 * i) (h : i < 8) where
  pub pair_word : (j : ℕ) → j < 2 → get_or (drop (2 * i) (pairs_at words at)) j 0 ≡ get_or words (p + j) 0
  pair_word j l =
      let q : at + (4 + (2 * i + j)) ≡ p + j = omega arith in
      get_or-drop (2 * i) (pairs_at words at) j 0 ∙ (get_or-drop 4 (record_at words at) (2 * i + j) 0 ∙ (part_at words at 20 (4 + (2 * i + j)) 0 (omega arith) ∙ ap (λ (k : ℕ). get_or words k 0) q))

-- the pairs behind pair i
pub next_pairs : (i : ℕ) (ws : List ℕ) → drop 2 (drop (2 * i) ws) ≡ drop (2 * (i + 1)) ws
next_pairs i ws = let q : 2 * i + 2 ≡ 2 * (i + 1) = omega arith in drop-drop 2 (2 * i) ws ∙ ap (λ (k : ℕ). drop k ws) q

-- a pair in its place: good where it is used, else zero
abbrev pub slot : ℕ → ℕ → ℕ → Bool
slot left kind bits = pick (eqb left 0) (both (eqb kind 0) (eqb bits 0)) (good_pair kind bits)

module _ (words : List ℕ) (at i p left : ℕ) (e : p ≡ at + 4 + 2 * i) (h : i < 8) where
  one_pair : good_pairs (8 - i) left (drop (2 * i) (pairs_at words at)) ≡ both (slot left (get_or words p 0) (get_or words (p + 1) 0)) (good_pairs (8 - (i + 1)) (left - 1) (drop (2 * (i + 1)) (pairs_at words at)))
  unfolding good_pairs
  one_pair =
      let f : 8 - i ≡ suc (8 - (i + 1)) = omega arith in
      let z : p + 0 ≡ p = omega arith in
      let k : get_or (drop (2 * i) (pairs_at words at)) 0 0 ≡ get_or words p 0 = pair_word words at i p e h 0 (omega arith) ∙ ap (λ (n : ℕ). get_or words n 0) z in
      rw (f, good_pairs, next_pairs i (pairs_at words at), k, pair_word words at i p e h 1 (omega arith))

  pub pair_good : slot left (get_or words p 0) (get_or words (p + 1) 0) ≡ true → good_pairs (8 - i) left (drop (2 * i) (pairs_at words at)) ≡ good_pairs (8 - (i + 1)) (left - 1) (drop (2 * (i + 1)) (pairs_at words at))
  pair_good g = one_pair ∙ rw g

  pub pair_bad : slot left (get_or words p 0) (get_or words (p + 1) 0) ≡ false → good_pairs (8 - i) left (drop (2 * i) (pairs_at words at)) ≡ false
  pair_bad g = one_pair ∙ rw g

-- a pair that is used is good, and so is an unused one, which is zero
slot_pair : (left kind bits : ℕ) → slot left kind bits ≡ true → good_pair kind bits ≡ true
unfolding good_pair
slot_pair zero kind bits e = rw (eqb-true kind 0 (both_left _ _ e), eqb-true bits 0 (both_right (eqb kind 0) _ e))
slot_pair (suc n) kind bits e = rw (ne_eqb (suc n) 0 (λ q. omega arith)) at e

each_pair : (n count : ℕ) (ws : List ℕ) → good_pairs n count ws ≡ true → (j : ℕ) → j < n → good_pair (get_or (drop (2 * j) ws) 0 0) (get_or (drop (2 * j) ws) 1 0) ≡ true
unfolding good_pairs
each_pair zero count ws e j h = absurd (omega arith)
each_pair (suc n) count ws e zero h = slot_pair count _ _ (both_left _ _ e)
each_pair (suc n) count ws e (suc j) h =
    let q : 2 + 2 * j ≡ 2 * suc j = omega arith in
    rw (← q, ← drop-drop (2 * j) 2 ws) (each_pair n (count - 1) (drop 2 ws) (both_right (slot count (get_or ws 0 0) (get_or ws 1 0)) _ e) j (omega arith))

pub shape_pair : (words : List ℕ) (at i p : ℕ) → p ≡ at + 4 + 2 * i → i < 8 → good_shape (record_at words at) ≡ true → good_pair (get_or words p 0) (get_or words (p + 1) 0) ≡ true
unfolding good_shape
shape_pair words at i p e h g =
    let z : p + 0 ≡ p = omega arith in
    let k : get_or (drop (2 * i) (pairs_at words at)) 0 0 ≡ get_or words p 0 = pair_word words at i p e h 0 (omega arith) ∙ ap (λ (n : ℕ). get_or words n 0) z in
    rw (← k, ← pair_word words at i p e h 1 (omega arith)) (each_pair 8 _ (pairs_at words at) (both_right (leb (get_or (record_at words at) 3 0) 8) _ g) i h)
