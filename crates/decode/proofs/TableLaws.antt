-- What the tables by type code and opcode hold once they are filled. Assumes nothing.
use mathlib.Core.Path.{◌≡◌}
use mathlib.Core.List.{List, [], ◌∷◌}
use Prim.Native.Nat.{ℕ, ◌≤◌, ◌<◌}
use native.Mathlib.Omega.{arith}
use lib.ListN.{length, get_or, replicate, get_or-replicate, get_or-eq_default}
use Rattle.lists.proofs.Tests.{by_leb}
use Rattle.sheet.proofs.Filled.{Filled}
use Rattle.spec_sheet.specs.Types.{width_of, widths, kind_of, kinds}
use Rattle.decode.specs.Tables.{code_row, CodeRows, PlanOf, PlanRows}

-- behind the twelve types a code has neither width nor kind
pub code_past : (c : ℕ) → 12 < c → code_row c ≡ 0 ∷ 0 ∷ []
unfolding width_of kind_of
code_past c h =
    let w : length widths ≤ c = omega arith in
    let k : length kinds ≤ c = omega arith in
    rw (get_or-eq_default widths 0 w, get_or-eq_default kinds 0 k)

pub codes_made : (rows : List (List ℕ)) (n : ℕ) → Filled (λ c row. row ≡ code_row c) (replicate 256 (replicate {A = ℕ} 2 0)) rows n → 13 ≤ n → CodeRows rows
codes_made rows n g h c l =
    by_leb n c
    (λ q. rw (g.kept c q, get_or-replicate 256 c (replicate {A = ℕ} 2 0) [] l, code_past c (omega arith)))
    (λ q. g.made c q)

pub plans_made : (types : List (List ℕ)) (last : ℕ) (rows₀ rows : List (List ℕ)) (n : ℕ) → Filled (λ o. PlanOf (get_or types o [])) rows₀ rows n
    → ((o : ℕ) → o < 256 → o ≤ last → o < n) → PlanRows types last rows
plans_made types last rows₀ rows n g h o l k = g.made o (h o l k)

-- what a code's row holds
pub width_in : (codes : List (List ℕ)) (c : ℕ) → CodeRows codes → c < 256 → get_or (get_or codes c []) 0 0 ≡ width_of c
width_in codes c h l = rw (h c l)

pub kind_in : (codes : List (List ℕ)) (c : ℕ) → CodeRows codes → c < 256 → get_or (get_or codes c []) 1 0 ≡ kind_of c
kind_in codes c h l = rw (h c l)
