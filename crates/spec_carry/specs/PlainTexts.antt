-- Records whose string texts are plain. Assumes nothing.
use Rattle.std.specs.Prelude.{Bool, true, List, [], ◌∷◌, ℕ, eqb, get_or, drop}
use Rattle.lists.specs.Choice.{pick, both}
use Rattle.spec_sheet.specs.Types.{family_of, string_family}
use Rattle.spec_strings.specs.Plain.{plain}
use Rattle.spec_inputs.specs.Context.{Context, text_at}
use Rattle.spec_body.specs.Record.{opcode_of, pairs_of}

unfoldable pub plain_operands : Context → List ℕ → List ℕ → Bool
plain_operands e [] pairs = true
plain_operands e (code ∷ codes) pairs =
    both (pick (eqb (family_of code) string_family) (plain (text_at e (get_or pairs 1 0))) true) (plain_operands e codes (drop 2 pairs))

-- "its string texts are plain"
unfoldable pub plain_texts : Context → List (List ℕ) → Bool
plain_texts e [] = true
plain_texts e (r ∷ rs) = both (plain_operands e (get_or e.types (opcode_of r) []) (pairs_of r)) (plain_texts e rs)
