-- The tables of every sheet that is read are good, so both round trips hold under any sheet. Assumes nothing.
use mathlib.Core.Path.{◌≡◌}
use mathlib.Core.List.{List, []}
use Prim.Native.Nat.{ℕ, ◌*◌, ◌/◌}
use native.Mathlib.Omega.{arith}
use lib.ListN.{length}
use Rattle.lists.specs.Scan.{Bytes}
use Rattle.spec_sheet.specs.Sheet.{Sheet, sheet_of, type_rows}
use Rattle.spec_sheet.specs.Sheet.SheetRead.{sheet}
use Rattle.spec_sheet.proofs.RowLaws.{sheet_types, sheet_above_most}
use Rattle.spec_sheet.proofs.SheetLaws.{whole_sheet}
use Rattle.spec_body.specs.Record.{join}
use Rattle.spec_body.specs.Recode.{recoded}
use Rattle.spec_body.specs.Operation.{decode, encode}
use Rattle.answers.specs.Outcome.{produced}
use Rattle.spec_body.proofs.OutcomeLaws as outcome

pub good_sheet : (text : List ℕ) → outcome.GoodSheet text
good_sheet text sh at e =
    let w = whole_sheet text sh at e in
    record {
      rows = λ k h. let t = sheet_types text 0 sh at w k h in record { codes = t.codes; few = t.few; types = t.good; is_row = t.row_is };
      small = omega (arith, sheet_above_most text 0 sh at w);
    }

-- "encoding the records of any body that decodes gives the body back"
pub decode_encode : (text body words : List ℕ) (n : ℕ) → Bytes body → decode text body ≡ produced n words [] → encode text words ≡ produced (length body) body []
decode_encode text body words n b e = outcome.decode_encode text (good_sheet text) body words n b e

-- "decoding what was encoded gives the same opcodes, counts and operand bits, with offsets and lengths computed anew"
pub encode_decode : (text : List ℕ) (sh : Sheet) (at : ℕ) (words bs : List ℕ) (n : ℕ) → sheet_of text ≡ sheet sh at → encode text words ≡ produced n bs []
    → decode text bs ≡ produced (length words / 20) (join (recoded (type_rows sh.opcodes) words)) []
encode_decode text sh at words bs n r e = outcome.encode_decode text (good_sheet text) sh at words bs n r e

-- each record has 20 words
pub decode_length : (text body words : List ℕ) (n : ℕ) → decode text body ≡ produced n words [] → length words ≡ 20 * n
decode_length text body words n e = outcome.decode_length text (good_sheet text) body words n e
