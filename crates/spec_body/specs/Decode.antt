-- Decoding a body: `decode_function_instructions` (document 01, 'Decoder and encoder'). Assumes nothing.
use Rattle.std.specs.Prelude.{List, [], ◌∷◌, ℕ, zero, suc, ◌+◌, leb, ltb, length, get_or}
use Rattle.lists.specs.Choice.{pick}
use Rattle.answers.specs.declared.refusal.Refusal.{Refusal}
use Rattle.answers.specs.declared.refusal.Refusal.TheVariants.{Beyond, Cut}
use Rattle.spec_sheet.specs.Row.{length_of}
use Rattle.spec_body.specs.Record.{record_of}

-- the records of a body, or why it has none
pub data Decoded : Type 0 where
  decoded : List (List ℕ) → Decoded
  not_decoded : Refusal → Decoded

unfoldable pub prepend : List ℕ → Decoded → Decoded
prepend r (decoded rs) = decoded (r ∷ rs)
prepend r (not_decoded x) = not_decoded x

-- the type codes of the instruction at `at`
abbrev pub row_at : List (List ℕ) → List ℕ → ℕ → List ℕ
row_at types s at = get_or types (get_or s at 0) []

-- the instructions from `at` on, at most f of them, under a table of type codes and its largest opcode: "13 and 14 as met",
-- "opcode beyond the sheet's largest" and "bytes end inside an instruction"
unfoldable pub decode_from : ℕ → List (List ℕ) → ℕ → List ℕ → ℕ → Decoded
decode_from zero types last s at = decoded []
decode_from (suc f) types last s at =
    let row = row_at types s at in
    let rest = prepend (record_of row s at) (decode_from f types last s (at + length_of row)) in
    pick (leb (length s) at) (decoded [])
    (pick (ltb last (get_or s at 0)) (not_decoded (Beyond at))
    (pick (ltb (length s) (at + length_of row)) (not_decoded (Cut at)) rest))

-- a whole body: an instruction has a byte at least, so there are no more of them than bytes
abbrev pub decode_body : List (List ℕ) → ℕ → List ℕ → Decoded
decode_body types last s = decode_from (length s) types last s 0
