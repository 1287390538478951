-- Records whose string ids are the first of their texts. Assumes nothing.
use Rattle.std.specs.Prelude.{Bool, true, List, [], ◌∷◌, ℕ, eqb, get_or, drop}
use Rattle.lists.specs.Choice.{pick, both}
use Rattle.spec_sheet.specs.Types.{family_of, string_family}
use Rattle.spec_strings.specs.Table.{lookup}
use Rattle.spec_inputs.specs.Context.{Context, has_text, text_at}
use Rattle.spec_body.specs.Record.{opcode_of, pairs_of}
use Rattle.spec_carry.specs.Passes.{or_zero}

-- an id has a text, and "Lookup gives the first id whose text is equal" gives this id
unfoldable pub is_first_id : Context → ℕ → Bool
is_first_id e id = both (has_text e id) (eqb (or_zero (lookup (text_at e id) e.bytes e.ends)) id)

unfoldable pub first_operands : Context → List ℕ → List ℕ → Bool
first_operands e [] pairs = true
first_operands e (code ∷ codes) pairs =
    both (pick (eqb (family_of code) string_family) (is_first_id e (get_or pairs 1 0)) true) (first_operands e codes (drop 2 pairs))

-- every string id is the first of its text
unfoldable pub first_ids : Context → List (List ℕ) → Bool
first_ids e [] = true
first_ids e (r ∷ rs) = both (first_operands e (get_or e.types (opcode_of r) []) (pairs_of r)) (first_ids e rs)
