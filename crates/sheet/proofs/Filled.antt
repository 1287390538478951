-- Tables by opcode or type code that are filled row by row from the front. Assumes nothing.
use mathlib.Core.Path.{◌≡◌, refl, ◌∙◌}
use mathlib.Core.List.{List, []}
use Prim.Native.Nat.{ℕ, ◌+◌, ◌≤◌, ◌<◌}
use native.Mathlib.Omega.{arith}
use lib.ListN.{length, get_or, set, length-set}
use lib.Seq.{get_or-set_same, get_or-set_other}
use Rattle.lists.proofs.Tests.{by_eqb}

-- n rows are made, of which P says what they are, and those behind them are as they were
pub record Filled (P : ℕ → List ℕ → Type 0) (rows₀ rows : List (List ℕ)) (n : ℕ) : Type 0 where
  pub size : length rows ≡ length rows₀
  pub made : (c : ℕ) → c < n → P c (get_or rows c [])
  pub kept : (c : ℕ) → n ≤ c → get_or rows c [] ≡ get_or rows₀ c []

module _ (P : ℕ → List ℕ → Type 0) (rows₀ : List (List ℕ)) where
  pub none_made : Filled P rows₀ rows₀ 0
  none_made = record { size = refl; made = λ c h. absurd (omega arith); kept = λ c h. refl }

  pub one_more : (rows : List (List ℕ)) (n : ℕ) (row : List ℕ) → Filled P rows₀ rows n → n < length rows₀ → P n row → Filled P rows₀ (set rows n row) (n + 1)
  one_more rows n row g h e = record {
    size = length-set rows n row ∙ g.size;
    made = λ c l.
        by_eqb c n
        (λ q. rw (q, get_or-set_same rows n row [] (omega (arith, g.size))) e)
        (λ q. rw (get_or-set_other rows n c row [] q) (g.made c (omega (arith, q))));
    kept = λ c l. get_or-set_other rows n c row [] (λ q. omega arith) ∙ g.kept c (omega arith);
  }
