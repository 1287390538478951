-- The tables of both sheets, as both passes take them. Assumes nothing.
use mathlib.Core.Path.{◌≡◌, refl}
use mathlib.Core.List.{List, [], ◌++◌}
use Prim.Native.Nat.{ℕ, zero, suc, ◌-◌, ◌≤◌}
use native.Mathlib.Omega.{arith}
use lib.ListN.{length, get_or, replicate, get_or-replicate, get_or-eq_default, length-replicate}
use Rattle.lists.proofs.Tests.{by_leb}
use Rattle.spec_sheet.specs.Sheet.{Sheet, SheetRead, sheet_at, sheet_of, fill, type_rows, no_type_rows}
use Rattle.spec_sheet.specs.Sheet.SheetRead.{sheet, malformed}
use Rattle.spec_sheet.proofs.OpLaws.{TypeCodes}
use Rattle.spec_sheet.proofs.OpLaws.TypeCodes.{none, one}
use Rattle.spec_sheet.proofs.RowLaws.{type_rows_length, sheet_types}
use Rattle.spec_sheet.proofs.SheetLaws.{whole_sheet}
use Rattle.spec_body.proofs.RowLaws.{GoodRow}
use Rattle.spec_inputs.specs.Context.{context_from}
use Rattle.sheet.specs.Sheets.{types_in, infos_in}
use Rattle.spec_carry.specs.Carry.{context_in}
use Rattle.carry.specs.Ready.{ZerosBehind}

-- zeros alone
zero_at : (n k : ℕ) → get_or (replicate {A = ℕ} n 0) k 0 ≡ 0
zero_at zero k = refl
zero_at (suc n) zero = refl
zero_at (suc n) (suc k) = zero_at n k

-- codes and zeros behind them
codes_zeros : {cs : List ℕ} → TypeCodes cs → (n : ℕ) → ZerosBehind (cs ++ replicate n 0)
codes_zeros none n j k h e = zero_at n k
codes_zeros (one l m t) n zero k h e = absurd (omega arith)
codes_zeros (one l m t) n (suc j) zero h e = absurd (omega arith)
codes_zeros (one l m t) n (suc j) (suc k) h e = codes_zeros t n j k (omega arith) e

good_zeros : {row : List ℕ} → GoodRow row → ZerosBehind row
good_zeros g = rw g.is_row (codes_zeros g.types (8 - length g.codes))

-- the rows of a sheet that was read somewhere in a text
pub read_zeros : (text : List ℕ) (start : ℕ) (sh : Sheet) (at : ℕ) → sheet_at text start ≡ sheet sh at → (op : ℕ) → ZerosBehind (get_or (type_rows sh.opcodes) op [])
read_zeros text start sh at e op =
    by_leb 256 op
    (λ h j k l z. let d : length (type_rows sh.opcodes) ≤ op = omega (arith, type_rows_length sh.opcodes) in rw (get_or-eq_default (type_rows sh.opcodes) [] d))
    (λ h. let t = sheet_types text start sh at e op h in good_zeros (record { codes = t.codes; few = t.few; types = t.good; is_row = t.row_is }))

-- the rows of every sheet, read or not
pub sheet_zeros : (text : List ℕ) (op : ℕ) → ZerosBehind (get_or (types_in (sheet_of text)) op [])
unfolding types_in
sheet_zeros text op = go (sheet_of text) refl
  where
    go : (x : SheetRead) → sheet_of text ≡ x → ZerosBehind (get_or (types_in x) op [])
    go (sheet sh at) e = read_zeros text 0 sh at (whole_sheet text sh at e) op
    go (malformed line) e =
        by_leb 256 op
        (λ h j k l z. let d : length no_type_rows ≤ op = omega (arith, length-replicate 256 (replicate {A = ℕ} 8 0)) in rw (get_or-eq_default no_type_rows [] d))
        (λ h. rw (get_or-replicate 256 op (replicate {A = ℕ} 8 0) [] h) (λ j k l z. zero_at 8 k))

-- the context of a sheet has its tables
pub context_is : (x : SheetRead) (text bytes ends : List ℕ) → context_from text (types_in x) (infos_in x) bytes ends ≡ context_in x text bytes ends
unfolding types_in infos_in context_in fill
context_is (sheet sh at) text bytes ends = refl
context_is (malformed line) text bytes ends = refl
