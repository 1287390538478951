-- The name of an opcode: one of the sheet, which is found again, or "<invalid>". Assumes nothing.
use mathlib.Core.Path.{◌≡◌}
use mathlib.Core.List.{List, []}
use Prim.Native.Nat.{ℕ, ◌<◌}
use native.Mathlib.Omega.{arith}
use lib.ListN.{take, get_or}
use borrow.Author.Tests.{eq-eqb, ne_eqb}
use Rattle.lists.specs.Text.{text}
use Rattle.lists.specs.Found.Found.{found}
use Rattle.spec_sheet.specs.Sheet.{Sheet, sheet_at, info_rows, find_name}
use Rattle.spec_sheet.specs.Sheet.SheetRead.{sheet}
use Rattle.spec_sheet.proofs.NameTextLaws.{NameText, name_text}
use Rattle.spec_sheet.proofs.OwnNameLaws.{row_name, sheet_own_name}
use Rattle.spec_sheet.proofs.RowLaws.{sheet_name}
use Rattle.spec_inputs.specs.Context.{Context, name_of}
use Rattle.spec_inputs.specs.Inputs.{context_of}

-- the name by an opcode's row, whose last number is the length
module _ (e : Context) (k : ℕ) where
  -- of a gap
  pub gap_name : get_or (get_or e.infos k []) 3 0 ≡ 0 → name_of e k ≡ text "<invalid>"
  unfolding name_of
  gap_name z = rw (eq-eqb _ _ z)

  -- of an opcode of the sheet
  pub row_name_lem : 0 < get_or (get_or e.infos k []) 3 0 → name_of e k ≡ row_name e.sheet (get_or e.infos k [])
  unfolding name_of
  row_name_lem h = rw (ne_eqb (get_or (get_or e.infos k []) 3 0) 0 (λ z. omega arith))

-- under a sheet that was read, with any string table, of an opcode of the sheet
module _ (s : List ℕ) (at : ℕ) (sh : Sheet) (c : ℕ) (e : sheet_at s at ≡ sheet sh c) (bytes ends : List ℕ) (k : ℕ) where
  abbrev pub size : ℕ
  size = get_or (get_or (info_rows sh.opcodes) k []) 3 0

  -- the name is one that a sheet may have
  pub sheet_name_text : 0 < size → NameText (name_of (context_of s sh.opcodes bytes ends) k)
  sheet_name_text h = rw (row_name_lem (context_of s sh.opcodes bytes ends) k h) (name_text s _ _ (sheet_name s at sh c e k h))

  -- it is found again, at its opcode
  pub name_found : (n : ℕ) → k < n → 0 < size → find_name s (name_of (context_of s sh.opcodes bytes ends) k) 0 (take n (info_rows sh.opcodes)) ≡ found k
  name_found n l h = rw (row_name_lem (context_of s sh.opcodes bytes ends) k h) (sheet_own_name s at sh c e n k l h)
