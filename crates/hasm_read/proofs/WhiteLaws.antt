-- Laws of trimming, from the back of a list. Assumes nothing.
use mathlib.Core.Path.{◌≡◌, refl, sym, ap, ◌∙◌}
use mathlib.Core.Bool.{true, false}
use Prim.Native.Nat.{ℕ, suc, ◌-◌, ◌+◌, ◌≤◌, ◌<◌}
use native.Mathlib.Omega.{arith}
use mathlib.Core.List.{List, [], ◌∷◌, ◌++◌}
use lib.Dec.{eqb, eqb-suc-zero}
use lib.ListN.{length, take, drop, get_or}
use lib.Seq.{take-suc, length-take-le}
use Rattle.std.specs.List.{prefix_len}
use Rattle.std.proofs.Common.{reverse}
use Rattle.std.proofs.lemmas.List.{reverse-append, reverse-reverse, length-reverse}
use Rattle.lists.specs.Choice.{pick}
use Rattle.lists.specs.Scan.{run}
use Rattle.lists.proofs.Tests.{by_test}
use Rattle.lists.proofs.Parts.{tail_part}
use Rattle.spec_hasm.specs.Text.{is_white, solid_length, trim}

-- a byte in front of so many that stand up to the last solid one
abbrev longer : ℕ → ℕ → ℕ
longer b rest = pick (eqb rest 0) (pick (is_white b) 0 1) (suc rest)

longer_suc : (b n : ℕ) → longer b (suc n) ≡ suc (suc n)
longer_suc b n = rw (eqb-suc-zero n)

-- one byte more at the end
solid_white : (t : List ℕ) (b : ℕ) → is_white b ≡ true → solid_length (t ++ (b ∷ [])) ≡ solid_length t
unfolding solid_length
solid_white [] b e = rw e
solid_white (a ∷ t) b e = ap (longer a) (solid_white t b e)

solid_solid : (t : List ℕ) (b : ℕ) → is_white b ≡ false → solid_length (t ++ (b ∷ [])) ≡ suc (length t)
unfolding solid_length
solid_solid [] b e = rw e
solid_solid (a ∷ t) b e = ap (longer a) (solid_solid t b e) ∙ longer_suc a (length t)

-- one byte more in front of a list that is counted from the back
module _ (b : ℕ) (t : List ℕ) where
  more_white : is_white b ≡ true → solid_length (reverse t) ≡ length t - prefix_len is_white t → solid_length (reverse (b ∷ t)) ≡ length (b ∷ t) - prefix_len is_white (b ∷ t)
  more_white e h = ap solid_length (reverse-append (b ∷ []) t) ∙ solid_white (reverse t) b e ∙ h ∙ rw e (omega arith)

  more_solid : is_white b ≡ false → solid_length (reverse (b ∷ t)) ≡ length (b ∷ t) - prefix_len is_white (b ∷ t)
  more_solid e = ap solid_length (reverse-append (b ∷ []) t) ∙ solid_solid (reverse t) b e ∙ rw (e, length-reverse t) (omega arith)

back_run : (t : List ℕ) → solid_length (reverse t) ≡ length t - prefix_len is_white t
unfolding solid_length
back_run [] = refl
back_run (b ∷ t) = let h = back_run t in by_test (is_white b) (λ e. more_white b t e h) (more_solid b t)

-- what stands up to the white space at the end
pub solid_is : (s : List ℕ) (r : ℕ) → r ≡ prefix_len is_white (reverse s) → length s - r ≡ solid_length s
solid_is s r f =
    rw f (sym (sym (ap solid_length (reverse-reverse s)) ∙ back_run (reverse s) ∙ ap (λ (n : ℕ). n - prefix_len is_white (reverse s)) (length-reverse s)))

-- a list whose last element is solid
module _ (s : List ℕ) (n : ℕ) (p : 0 < n) (h : n ≤ length s) where
  pub back_solid : is_white (get_or s (n - 1) 0) ≡ false → solid_length (take n s) ≡ n
  back_solid e =
      let q : n ≡ suc (n - 1) = omega arith in
      ap (λ (k : ℕ). solid_length (take k s)) q ∙ ap solid_length (take-suc s (n - 1) 0 (omega arith))
      ∙ solid_solid (take (n - 1) s) _ e ∙ ap suc (length-take-le (n - 1) s (omega arith)) ∙ sym q

-- what two slices in a row hold
pub trim_is : (s : List ℕ) (a n : ℕ) → a ≡ 0 + run is_white s → n ≡ solid_length (take (length s - a) (drop a s))
    → take n (take (length s - a) (drop a s)) ≡ trim s
unfolding trim
trim_is s a n e f =
    let g : a ≡ run is_white s = omega (arith, e) in
    rw (f, tail_part s a, g)
