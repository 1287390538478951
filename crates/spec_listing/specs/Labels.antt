-- The offsets that have a label: collect_label_offsets of disasm.rs. Assumes nothing.
use Rattle.std.specs.Prelude.{Bool, false, List, [], ◌∷◌, ◌++◌, ℕ, suc, ◌+◌, ◌^◌, eqb, ltb, get_or, drop}
use Rattle.lists.specs.Choice.{pick, either}
use Rattle.lists.specs.Scan.{same}
use Rattle.lists.specs.Text.{text}
use Rattle.spec_sheet.specs.Types.{family_of, addr_family}
use Rattle.spec_inputs.specs.Context.{Context, name_of, is_jump}
use Rattle.spec_listing.specs.Operand.{target_of}
use Rattle.spec_body.specs.Record.{offset_of, opcode_of, pairs_of}

-- "after Ret, Throw, Jmp and JmpLong"
unfoldable pub ends_flow : List ℕ → Bool
ends_flow name =
    either (same name (text "Ret"))
    (either (same name (text "Throw")) (either (same name (text "Jmp")) (same name (text "JmpLong"))))

-- "each non-negative Addr target": one whose sign bit is not set, of an operand of family Addr
unfoldable pub targets : ℕ → List ℕ → List ℕ → List ℕ
targets at [] pairs = []
targets at (code ∷ codes) pairs =
    let target = target_of at code (get_or pairs 1 0) in
    let rest = targets at codes (drop 2 pairs) in
    pick (eqb (family_of code) addr_family) (pick (ltb target (2 ^ 31)) (target ∷ rest) rest) rest

-- the label offsets that one instruction contributes: the one behind it, and its targets where it is a jump
unfoldable pub labels_of : Context → List ℕ → List ℕ
labels_of e r =
    let row = get_or e.types (opcode_of r) [] in
    pick (ends_flow (name_of e (opcode_of r))) ((offset_of r + get_or r 2 0) ∷ []) [] ++ pick (is_jump e (opcode_of r)) (targets (offset_of r) row (pairs_of r)) []

unfoldable pub label_offsets : Context → List (List ℕ) → List ℕ
label_offsets e [] = []
label_offsets e (r ∷ rs) = labels_of e r ++ label_offsets e rs

-- an offset is among others
unfoldable pub among : ℕ → List ℕ → Bool
among x [] = false
among x (y ∷ ys) = either (eqb x y) (among x ys)

-- "each different offset": how many there are
unfoldable pub different : List ℕ → ℕ
different [] = 0
different (x ∷ xs) = pick (among x xs) (different xs) (suc (different xs))
