-- The loop that writes the operands of a canonical record. Assumes nothing.
use mathlib.Core.Path.{◌≡◌, refl, ap, sym, ◌∙◌}
use mathlib.Core.List.{List, [], ◌∷◌, ◌++◌}
use Prim.Native.Nat.{ℕ, ◌+◌, ◌*◌, ◌≤◌, ◌<◌}
use native.Mathlib.Numerals.{add-one}
use native.Mathlib.Omega.{arith}
use lib.ListN.{length, drop, get_or, drop_of_length-le}
use lib.Seq.{drop-cons}
use Rattle.lists.specs.Write.{put, top, Ahead}
use Rattle.lists.proofs.Writes.{put_length}
use Rattle.spec_numbers.specs.LittleEndian.{le_bytes}
use Rattle.spec_sheet.specs.Types.{width_of}
use Rattle.spec_sheet.proofs.TypeLaws.{width_most}
use Rattle.encode.specs.RecordPlaces.{pairs_at}
use Rattle.encode.specs.Canonical.{canonical_bytes}
use Rattle.encode.proofs.ShapeLaws.{pair_word, next_pairs}
use Rattle.lists.proofs.Aheads.{◌and_then◌}
use Rattle.numbers.proofs.WordLaws.{wide}

-- j operands were written, and those behind them complete the record
pub record Going (f words : List ℕ) (at : ℕ) (out₀ : List ℕ) («from» : ℕ) (out : List ℕ) (k j : ℕ) : Type 0 where
  pub few : j ≤ 4
  pub near : k ≤ «from» + 8 * j
  pub same_length : length out ≡ length out₀
  pub left : (o : List ℕ) (r : ℕ) → Ahead out k (canonical_bytes (drop j f) (drop (2 * j) (pairs_at words at))) 8 o r → Ahead out₀ «from» (canonical_bytes f (pairs_at words at)) 8 o r

pub start : (f words : List ℕ) (at : ℕ) (out : List ℕ) («from» : ℕ) → Going f words at out «from» out «from» 0
start f words at out «from» = record { few = omega arith; near = omega arith; same_length = refl; left = λ o r p. p }

-- the bytes of operand j, and those behind it
one_piece : (f words : List ℕ) (at j v : ℕ) → j < 8 → j < length f → v ≡ get_or words (at + 5 + 2 * j) 0
    → canonical_bytes (drop j f) (drop (2 * j) (pairs_at words at)) ≡ le_bytes (width_of (get_or f j 0)) v ++ canonical_bytes (drop (j + 1) f) (drop (2 * (j + 1)) (pairs_at words at))
unfolding canonical_bytes
one_piece f words at j v h q x =
    let d : drop j f ≡ get_or f j 0 ∷ drop (j + 1) f = rw (add-one j) (drop-cons f j 0 q) in
    let z : at + 4 + 2 * j + 1 ≡ at + 5 + 2 * j = omega arith in
    let k : get_or (drop (2 * j) (pairs_at words at)) 1 0 ≡ v = pair_word words at j (at + 4 + 2 * j) refl h 1 (omega arith) ∙ (ap (λ (i : ℕ). get_or words i 0) z ∙ sym x) in
    rw (d, k, next_pairs j (pairs_at words at))

module _ (f words : List ℕ) (at : ℕ) (out₀ : List ℕ) («from» : ℕ) (out : List ℕ) (k j : ℕ) (g : Going f words at out₀ «from» out k j) (l : length out₀ ≤ top) (m : «from» + 40 ≤ length out₀) where
  pub turn : (h : j < 4) → j < length f → (v : ℕ) → v ≡ get_or words (at + 5 + 2 * j) 0 → (w : ℕ) → w ≡ width_of (get_or f j 0) → (out' : List ℕ) → out' ≡ put out k (le_bytes 8 v)
      → Going f words at out₀ «from» out' (k + w) (j + 1)
  turn h q v x w y out' e =
      let n : length out' ≡ length out = rw e (put_length out k (le_bytes 8 v)) in
      let b : w ≤ 8 = rw y (width_most (get_or f j 0)) in
      record {
        few = omega arith;
        near = omega (arith, g.near);
        same_length = n ∙ g.same_length;
        left = λ o r p. g.left o r (rw (one_piece f words at j v (omega arith) q x, ← y) (wide w v b (omega (arith, g.same_length)) (omega (arith, g.same_length, g.near)) e and_then (p, omega arith)));
      }

  pub ended : length f ≤ j → Ahead out₀ «from» (canonical_bytes f (pairs_at words at)) 8 out k
  unfolding canonical_bytes put
  ended h = g.left out k (rw (drop_of_length-le f h) (record { small = omega (arith, g.same_length); next = omega (arith, g.same_length, g.near, g.few); behind = []; few = omega arith; bytes = refl }))
