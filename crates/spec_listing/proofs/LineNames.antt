-- The name on a listed line: one of the sheet, or "<invalid>". Assumes nothing.
use mathlib.Core.Path.{◌≡◌, refl}
use mathlib.Core.Bool.{true}
use mathlib.Core.List.{List, []}
use Prim.Native.Nat.{ℕ}
use native.Mathlib.Omega.{arith}
use lib.ListN.{get_or}
use borrow.Author.Tests.{eqb-true}
use Rattle.lists.specs.Scan.{all}
use Rattle.lists.specs.Text.{text}
use Rattle.lists.proofs.Tests.{by_eqb, within_least, within_most}
use Rattle.lists.proofs.Scans.{all_weaken}
use Rattle.spec_sheet.specs.Scan.{is_upper, is_lower, is_digit, is_name_byte}
use Rattle.spec_sheet.specs.Sheet.{Sheet, sheet_at, info_rows}
use Rattle.spec_sheet.specs.Sheet.SheetRead.{sheet}
use Rattle.spec_sheet.proofs.NameTextLaws.{NameText, either_cases}
use Rattle.spec_inputs.specs.Context.{name_of}
use Rattle.spec_inputs.specs.Inputs.{context_of}
use Rattle.spec_inputs.proofs.NameLaws.{gap_name, sheet_name_text}
use Rattle.spec_listing.proofs.TokenBytes.{token_byte, Token, token_digit, token_letter}

-- a name of a sheet, or what stands for a gap
pub data ListedName (name : List ℕ) : Type 0 where
  named : NameText name → ListedName name
  gap : name ≡ text "<invalid>" → ListedName name

-- a letter, digit or underscore is a byte of a token
name_byte : (b : ℕ) → is_name_byte b ≡ true → token_byte b ≡ true
unfolding is_name_byte
name_byte b e =
    either_cases (is_upper b) _ e (λ u. token_letter b (within_least 65 90 b u) (omega (arith, within_most 65 90 b u)))
    (λ f. either_cases (is_lower b) _ f (λ u. token_letter b (omega (arith, within_least 97 122 b u)) (within_most 97 122 b u))
    (λ g. either_cases (is_digit b) _ g (λ u. token_digit b (within_least 48 57 b u) (within_most 48 57 b u))
    (λ u. let q = eqb-true b 95 u in token_letter b (omega arith) (omega arith))))

invalid_token : Token (text "<invalid>")
unfolding text all token_byte
invalid_token = record { bytes = refl; some = omega arith }

-- a name is a token; NameText says that it opens with an upper-case letter
pub name_token : (name : List ℕ) → ListedName name → Token name
name_token name (named n) = record { bytes = all_weaken is_name_byte token_byte name_byte name n.bytes; some = n.least }
name_token name (gap e) = rw e invalid_token

-- the name of any opcode of a sheet that was read, with any string table
pub listed_name : (s : List ℕ) (at : ℕ) (sh : Sheet) (c : ℕ) → sheet_at s at ≡ sheet sh c → (bytes ends : List ℕ) (k : ℕ) → ListedName (name_of (context_of s sh.opcodes bytes ends) k)
listed_name s at sh c e bytes ends k =
    by_eqb (get_or (get_or (info_rows sh.opcodes) k []) 3 0) 0
    (λ z. gap (gap_name (context_of s sh.opcodes bytes ends) k z))
    (λ z. named (sheet_name_text s at sh c e bytes ends k (omega (arith, z))))
