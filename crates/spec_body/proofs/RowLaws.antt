-- Laws of rows of type codes as a sheet makes them: codes, then zeros. Assumes nothing.
use mathlib.Core.Path.{◌≡◌, refl, ap, ◌∙◌}
use mathlib.Core.List.{List, [], ◌∷◌, ◌++◌}
use Prim.Native.Nat.{ℕ, zero, suc, ◌+◌, ◌-◌, ◌≤◌, ◌<◌}
use native.Mathlib.Omega.{arith}
use lib.ListN.{length, get_or, replicate, length-append, length-replicate}
use Rattle.spec_sheet.specs.Types.{width_of}
use Rattle.spec_sheet.proofs.OpLaws.{TypeCodes}
use Rattle.spec_sheet.proofs.OpLaws.TypeCodes.{none, one}
use Rattle.spec_sheet.specs.Row.{sum_by, count_of, one_for, total_width}
use Rattle.spec_body.proofs.OperandLaws.{no_zero}

-- eight codes: those of at most eight types, and zeros behind them
pub record GoodRow (row : List ℕ) : Type 0 where
  pub codes : List ℕ
  pub few : length codes ≤ 8
  pub types : TypeCodes codes
  pub is_row : row ≡ codes ++ replicate (8 - length codes) 0

-- a table with such a row for each opcode
abbrev pub GoodRows : List (List ℕ) → Type 0
GoodRows types = (k : ℕ) → k < 256 → GoodRow (get_or types k [])

-- a sum passes over the zeros where the function does
sum_zeros : (f : ℕ → ℕ) (n : ℕ) → f 0 ≡ 0 → sum_by f (replicate n 0) ≡ 0
unfolding sum_by
sum_zeros f zero e = refl
sum_zeros f (suc n) e = omega (arith, e, sum_zeros f n e)

sum_codes : (f : ℕ → ℕ) (cs : List ℕ) (n : ℕ) → f 0 ≡ 0 → sum_by f (cs ++ replicate n 0) ≡ sum_by f cs
unfolding sum_by
sum_codes f [] n e = sum_zeros f n e
sum_codes f (c ∷ cs) n e = ap (λ (m : ℕ). f c + m) (sum_codes f cs n e)

module _ (cs : List ℕ) (n : ℕ) where
  pub row_widths : total_width (cs ++ replicate n 0) ≡ total_width cs
  unfolding width_of
  row_widths = sum_codes width_of cs n refl

  pub row_count : TypeCodes cs → count_of (cs ++ replicate n 0) ≡ length cs
  unfolding sum_by
  row_count t = sum_codes one_for cs n refl ∙ go t
    where
      go : {ds : List ℕ} → TypeCodes ds → count_of ds ≡ length ds
      go none = refl
      go (one {c} l h t) = rw (no_zero c l) (omega (arith, go t))

module _ {row : List ℕ} (g : GoodRow row) where
  pub good_length : length row ≡ 8
  good_length = omega (arith, ap length g.is_row, length-append g.codes (replicate (8 - length g.codes) 0), length-replicate {A = ℕ} (8 - length g.codes) 0, g.few)

  pub good_widths : total_width row ≡ total_width g.codes
  good_widths = ap (sum_by width_of) g.is_row ∙ row_widths g.codes (8 - length g.codes)

  pub good_count : count_of row ≡ length g.codes
  good_count = ap (sum_by one_for) g.is_row ∙ row_count g.codes (8 - length g.codes) g.types
