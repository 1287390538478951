-- A job's string table: `strings=N` and N lines `s=..`. Assumes nothing.
use Rattle.std.specs.Prelude.{List, [], ◌∷◌, ◌++◌, ℕ, zero, suc, ◌+◌, length}
use Rattle.lists.specs.Text.{text}
use Rattle.spec_sheet.specs.Scan.{after, literal_at, keyed_at, line_end}
use Rattle.spec_job.specs.Hex.{HexRead, hex_at}
use Rattle.spec_job.specs.Hex.HexRead.{hex, no_hex}

-- a table's bytes and ends and the place behind its lines, or how many of its lines were in order
pub data TableRead : Type 0 where
  table : List ℕ → List ℕ → ℕ → TableRead
  fault_after : ℕ → TableRead

-- what follows a line's bytes, and what is answered where it is malformed
unfoldable pub on_hex : {A : Type 0} → HexRead → A → (List ℕ → ℕ → A) → A
on_hex (hex bs at) failed then = then bs at
on_hex no_hex failed then = failed

-- `s=` and hex
unfoldable pub keyed_hex_at : List ℕ → List ℕ → ℕ → HexRead
keyed_hex_at key s at = after (literal_at key s at) no_hex λ _ a. hex_at s a

-- n lines behind those whose bytes and ends were read
unfoldable pub strings_from : ℕ → List ℕ → ℕ → List ℕ → List ℕ → TableRead
strings_from zero s at bytes ends = table bytes ends at
strings_from (suc n) s at bytes ends =
    on_hex (keyed_hex_at (text "s=") s at) (fault_after (suc (length ends))) λ bs b.
    strings_from n s b (bytes ++ bs) (ends ++ ((length bytes + length bs) ∷ []))

-- "`strings=` above 4,096 .. is 1"
abbrev pub strings_limit : ℕ
strings_limit = 4096

unfoldable pub table_at : List ℕ → ℕ → TableRead
table_at s at =
    after (keyed_at (text "strings=") strings_limit line_end s at) (fault_after 0) λ count a.
    strings_from count s a [] []
