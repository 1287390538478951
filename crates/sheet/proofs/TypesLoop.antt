-- The loop over a line's operand types. Assumes nothing.
use mathlib.Core.Path.{◌≡◌, refl, ap, sym, ◌∙◌}
use mathlib.Core.Bool.{true, false}
use mathlib.Core.List.{List, [], ◌∷◌, ◌++◌}
use Prim.Native.Nat.{ℕ, suc, ◌+◌, ◌-◌, ◌≤◌, ◌<◌}
use native.Mathlib.Omega.{arith}
use lib.Dec.{eqb}
use lib.ListN.{length, get_or, set, replicate, length-append}
use Rattle.std.specs.Prelude.{Option, Some}
use Rattle.lists.proofs.Parts.{fill_next}
use Rattle.spec_sheet.specs.Scan.{type_at, after}
use Rattle.spec_sheet.specs.Scan.Step.{next, off}
use Rattle.spec_sheet.specs.Line.{TypesRead, with_type, types_from}
use Rattle.spec_sheet.specs.Line.TypesRead.{types, no_types}
use Rattle.sheet.specs.Lines.{types_of}
use Rattle.sheet.specs.declared.line.Types.{Types}

-- several types in front of those that are read
pub with_types : List ℕ → TypesRead → TypesRead
with_types [] r = r
with_types (c ∷ cs) r = with_type c (with_types cs r)

with_more : (cs : List ℕ) (c : ℕ) (r : TypesRead) → with_types (cs ++ (c ∷ [])) r ≡ with_types cs (with_type c r)
unfolding with_types
with_more [] c r = refl
with_more (d ∷ cs) c r = ap (with_type d) (with_more cs c r)

with_none : (cs : List ℕ) → with_types cs no_types ≡ no_types
unfolding with_types with_type
with_none [] = refl
with_none (d ∷ cs) = ap (with_type d) (with_none cs)

with_types_lem : (cs ds : List ℕ) (at : ℕ) → with_types cs (types ds at) ≡ types (cs ++ ds) at
unfolding with_types with_type
with_types_lem [] ds at = refl
with_types_lem (d ∷ cs) ds at = ap (with_type d) (with_types_lem cs ds at)

-- i types were read, the row holds them, and those from `at` on complete them
pub record Going (s row : List ℕ) (from at i : ℕ) : Type 0 where
  pub codes : List ℕ
  pub count : length codes ≡ i
  pub few : i ≤ 8
  pub filled : row ≡ codes ++ replicate (8 - i) 0
  pub left : types_from 8 s from ≡ with_types codes (types_from (8 - i) s at)

pub start : (s : List ℕ) (from : ℕ) → Going s (replicate 8 0) from from 0
unfolding with_types
start s from = record { codes = []; count = refl; few = omega arith; filled = refl; left = refl }

-- one type: not there, the last, or with a comma behind it
module _ (n : ℕ) (s : List ℕ) (at : ℕ) where
  one_off : type_at s at ≡ off → types_from (suc n) s at ≡ no_types
  unfolding types_from after
  one_off e = rw (e, types_from)

  one_last : (c b : ℕ) → type_at s at ≡ next c b → eqb (get_or s b 0) 44 ≡ false → types_from (suc n) s at ≡ types (c ∷ []) b
  unfolding types_from after
  one_last c b e f = rw (e, f, types_from)

  one_more : (c b : ℕ) → type_at s at ≡ next c b → eqb (get_or s b 0) 44 ≡ true → types_from (suc n) s at ≡ with_type c (types_from n s (b + 1))
  unfolding types_from after
  one_more c b e f = rw (e, f, types_from)

module _ (s row : List ℕ) (from at i : ℕ) (g : Going s row from at i) where
  -- nine types
  pub ninth : 8 ≤ i → types_from 8 s from ≡ no_types
  unfolding types_from
  ninth h = let e : 8 - i ≡ 0 = omega arith in g.left ∙ rw e (with_none g.codes)

  module _ (h : i < 8) where
    less : 8 - i ≡ suc (8 - (i + 1))
    less = omega arith

    pub failed : type_at s at ≡ off → types_from 8 s from ≡ no_types
    failed e = g.left ∙ (rw (less, one_off (8 - (i + 1)) s at e) (with_none g.codes))

    module _ (c b : ℕ) (e : type_at s at ≡ next c b) where
      stored : set row i c ≡ (g.codes ++ (c ∷ [])) ++ replicate (8 - (i + 1)) 0
      stored = rw g.filled (fill_next 0 g.codes 8 i c g.count h)

      counted : length (g.codes ++ (c ∷ [])) ≡ i + 1
      counted = length-append g.codes (c ∷ []) ∙ omega (arith, g.count)

      pub turn : eqb (get_or s b 0) 44 ≡ true → Going s (set row i c) from (b + 1) (i + 1)
      turn f = record {
        codes = g.codes ++ (c ∷ []);
        count = counted;
        few = omega arith;
        filled = stored;
        left = g.left ∙ (rw (less, one_more (8 - (i + 1)) s at c b e f) (sym (with_more g.codes c (types_from (8 - (i + 1)) s (b + 1)))));
      }

      last : eqb (get_or s b 0) 44 ≡ false → types_from 8 s from ≡ types (g.codes ++ (c ∷ [])) b
      last f = g.left ∙ (rw (less, one_last (8 - (i + 1)) s at c b e f) (with_types_lem g.codes (c ∷ []) b))

      pub done : eqb (get_or s b 0) 44 ≡ false → ◌≡◌ {A = Option Types} (Some (record { row = set row i c; count = i + 1; next = b })) (types_of (types_from 8 s from))
      unfolding types_of
      done f = rw (last f, counted, stored) refl
