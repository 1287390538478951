-- Nothing is trimmed from a text that neither opens nor ends with white space. Assumes nothing.
use mathlib.Core.Path.{◌≡◌, refl, ap, sym, ◌∙◌}
use mathlib.Core.Bool.{true, false}
use mathlib.Core.List.{List, [], ◌∷◌}
use Prim.Native.Nat.{ℕ, suc, ◌≤◌}
use native.Mathlib.Omega.{arith}
use lib.ListN.{length, get_or, take, drop}
use lib.Seq.{take-length}
use borrow.Author.Tests.{ne_eqb}
use Rattle.lists.specs.Scan.{run}
use Rattle.lists.proofs.Tests.{within_high}
use Rattle.lists.proofs.Scans.{run_cons_go, run_cons_stop}
use Rattle.spec_strings.proofs.EscapeLaws.{last_of, last_append}
use Rattle.spec_hasm.specs.Text.{is_white, trim_start, solid_length, trim}

-- the last byte of a text behind another byte
unfoldable pub last_from : ℕ → List ℕ → ℕ
last_from b [] = b
last_from b (c ∷ s) = last_from c s

pub last_from_lem : (b : ℕ) (s : List ℕ) → last_of (b ∷ s) ≡ last_from b s
unfolding last_from
last_from_lem b [] = refl
last_from_lem b (c ∷ s) = last_append (b ∷ []) (c ∷ s) (omega arith) ∙ last_from_lem c s

-- what is no white space: the bytes above the space
pub solid : (b : ℕ) → 33 ≤ b → is_white b ≡ false
unfolding is_white
solid b h = rw (within_high 9 13 b (omega arith), ne_eqb b 32 (λ z. omega arith))

-- nor is what stands behind the end of a text
pub solid_none : is_white 0 ≡ false
unfolding is_white
solid_none = refl

pub white_space : is_white 32 ≡ true
unfolding is_white
white_space = refl

-- nothing in front
pub start_kept : (s : List ℕ) → is_white (get_or s 0 0) ≡ false → trim_start s ≡ s
unfolding run
start_kept [] e = refl
start_kept (b ∷ s) e = ap (λ (k : ℕ). drop k (b ∷ s)) (run_cons_stop is_white b s e)

-- a space in front
pub start_space : (s : List ℕ) → trim_start (32 ∷ s) ≡ trim_start s
start_space s = ap (λ (k : ℕ). drop k (32 ∷ s)) (run_cons_go is_white 32 s white_space)

-- nothing behind
solid_length_lem : (b : ℕ) (s : List ℕ) → is_white (last_from b s) ≡ false → solid_length (b ∷ s) ≡ suc (length s)
unfolding solid_length last_from
solid_length_lem b [] e = rw e
solid_length_lem b (c ∷ s) e = let q = solid_length_lem c s e in rw (q, ne_eqb (suc (length s)) 0 (λ z. omega arith))

pub end_kept : (s : List ℕ) → is_white (last_of s) ≡ false → take (solid_length s) s ≡ s
unfolding solid_length
end_kept [] e = refl
end_kept (b ∷ s) e =
    ap (λ (k : ℕ). take k (b ∷ s)) (solid_length_lem b s (sym (ap is_white (last_from_lem b s)) ∙ e)) ∙ take-length (b ∷ s)

pub trim_kept : (s : List ℕ) → is_white (get_or s 0 0) ≡ false → is_white (last_of s) ≡ false → trim s ≡ s
unfolding trim
trim_kept s e f = ap (λ (t : List ℕ). take (solid_length t) t) (start_kept s e) ∙ end_kept s f

-- only the space in front
pub trim_space : (s : List ℕ) → is_white (get_or s 0 0) ≡ false → is_white (last_of s) ≡ false → trim (32 ∷ s) ≡ s
unfolding trim
trim_space s e f = ap (λ (t : List ℕ). take (solid_length t) t) (start_space s ∙ start_kept s e) ∙ end_kept s f
