-- The label offsets of one instruction. Assumes nothing.
use Rattle.std.specs.Prelude.{List, [], ◌∷◌, ℕ, ◌+◌, ◌^◌, eqb, ltb}
use Rattle.lists.specs.Choice.{pick}
use Rattle.spec_sheet.specs.Types.{family_of, addr_family}
use Rattle.spec_sheet.specs.Row.{length_of}
use Rattle.spec_body.specs.Record.{pairs}
use Rattle.spec_listing.specs.Operand.{target_of}
use Rattle.spec_listing.specs.Labels.{targets}
use Rattle.list_labels.specs.OpcodeRows.{labels_by}
use Rattle.list_labels.specs.declared.opcode_rows.OpcodeRow.{OpcodeRow}

-- the target of one operand of a jump, where it is an Addr's and not negative
unfoldable pub target_in : ℕ → ℕ → ℕ → List ℕ
target_in at code bits =
    let target = target_of at code bits in
    pick (eqb (family_of code) addr_family) (pick (ltb target (2 ^ 31)) (target ∷ []) []) []

-- the label offsets of the instruction at `at`, by its opcode's row and type codes
unfoldable pub labels_in : OpcodeRow → List ℕ → List ℕ → ℕ → List ℕ
labels_in row codes s at = labels_by row (at + length_of codes) (targets at codes (pairs codes s (at + 1)))
