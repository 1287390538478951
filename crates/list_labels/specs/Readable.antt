-- The instructions of a body in front of one that is refused. Assumes nothing.
use Rattle.std.specs.Prelude.{List, [], ◌∷◌, ℕ, zero, suc, ◌+◌, leb, ltb, length, get_or}
use Rattle.lists.specs.Choice.{pick, either}
use Rattle.spec_sheet.specs.Row.{length_of}
use Rattle.spec_body.specs.Record.{record_of}
use Rattle.spec_body.specs.Decode.{row_at}

-- the records from `at` on, at most f of them, up to the end, or to the instruction that decodeFrom refuses
unfoldable pub readable_from : ℕ → List (List ℕ) → ℕ → List ℕ → ℕ → List (List ℕ)
readable_from zero types last s at = []
readable_from (suc f) types last s at =
    let row = row_at types s at in
    let stops = either (leb (length s) at) (either (ltb last (get_or s at 0)) (ltb (length s) (at + length_of row))) in
    pick stops [] (record_of row s at ∷ readable_from f types last s (at + length_of row))

-- of a body that is decoded these are all its records
abbrev pub readable : List (List ℕ) → ℕ → List ℕ → List (List ℕ)
readable types last s = readable_from (length s) types last s 0
