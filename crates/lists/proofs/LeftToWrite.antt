-- A loop that writes, by what it has left to write. Assumes nothing.
use mathlib.Core.Path.{◌≡◌, refl, sym, ◌∙◌}
use Prim.Native.Nat.{ℕ, ◌≤◌}
use native.Mathlib.Omega.{arith}
use mathlib.Core.List.{List, [], ◌++◌}
use lib.ListN.{length}
use Rattle.lists.specs.Write.{Put, Ahead, top}
use Rattle.lists.proofs.Writes.{wrote_none}
use Rattle.lists.proofs.Aheads.{◌and_then◌, not_ahead, none_ahead, more_ahead, same_ahead, ahead_length}

-- whoever writes `rest` at `k` has written `whole` at `at`, each with at most `spare` elements behind it
pub record LeftAhead (spare : ℕ) (whole out₀ : List ℕ) (at : ℕ) (rest out : List ℕ) (k : ℕ) : Type 0 where
  pub finish : (o : List ℕ) (r : ℕ) → Ahead out k rest spare o r → Ahead out₀ at whole spare o r
  pub small : length out₀ ≤ top
  pub counted : k ≤ top
  pub same_size : length out ≡ length out₀

-- with nothing behind it
abbrev pub Left : List ℕ → List ℕ → ℕ → List ℕ → List ℕ → ℕ → Type 0
Left whole out₀ at rest out k = LeftAhead 0 whole out₀ at rest out k

module _ {spare : ℕ} {whole out₀ : List ℕ} {at : ℕ} where
  -- before the first turn
  pub left_all : length out₀ ≤ top → at ≤ top → LeftAhead spare whole out₀ at whole out₀ at
  left_all h k = record { finish = λ o r p. p; small = h; counted = k; same_size = refl }

  -- a turn writes the first of what was left
  pub left_ahead : {piece rest more out out' : List ℕ} {k k' : ℕ} → LeftAhead spare whole out₀ at more out k → more ≡ piece ++ rest → Ahead out k piece spare out' k'
      → LeftAhead spare whole out₀ at rest out' k'
  left_ahead l e p = record {
    finish = λ o r q. l.finish o r (same_ahead (sym e) (◌and_then◌ p (q, omega arith)));
    small = l.small;
    counted = omega (arith, p.next);
    same_size = ahead_length p ∙ l.same_size;
  }

  pub left_turn : {piece rest more out out' : List ℕ} {k k' : ℕ} → LeftAhead spare whole out₀ at more out k → more ≡ piece ++ rest → Put out k piece out' k' → LeftAhead spare whole out₀ at rest out' k'
  left_turn l e p = left_ahead l e (more_ahead (omega arith) (not_ahead p))

  -- the same by another name
  pub left_same : {rest more out : List ℕ} {k : ℕ} → more ≡ rest → LeftAhead spare whole out₀ at more out k → LeftAhead spare whole out₀ at rest out k
  left_same e l = rw e at l

  -- when nothing is left
  pub left_done : {rest out : List ℕ} {k : ℕ} → LeftAhead spare whole out₀ at rest out k → rest ≡ [] → Ahead out₀ at whole spare out k
  left_done l e = l.finish _ _ (same_ahead (sym e) (more_ahead (omega arith) (not_ahead (wrote_none (rw l.same_size l.small) l.counted))))

pub left_none : {whole out₀ rest out : List ℕ} {at k : ℕ} → Left whole out₀ at rest out k → rest ≡ [] → Put out₀ at whole out k
left_none l e = none_ahead (left_done l e)
