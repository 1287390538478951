-- What a listed line consists of: offset, name, and one piece an operand, joined by commas. Assumes nothing.
use mathlib.Core.Path.{◌≡◌, refl, ap, ◌∙◌}
use mathlib.Core.Bool.{Bool}
use mathlib.Core.List.{List, [], ◌∷◌, ◌++◌, append_assoc}
use Prim.Native.Nat.{ℕ, zero, suc, ◌+◌, ◌*◌, ◌<◌}
use native.Mathlib.Omega.{arith}
use lib.Dec.{eqb}
use lib.ListN.{length, get_or, drop, replicate}
use lib.Seq.{get_or-drop}
use borrow.Author.Tests.{ne_eqb, eq-eqb}
use Rattle.lists.specs.Choice.{pick}
use Rattle.lists.specs.Text.{text}
use Rattle.lists.proofs.Tests.{by_eqb}
use Rattle.spec_numbers.specs.Print.{decimal}
use Rattle.spec_sheet.proofs.OpLaws.{TypeCodes}
use Rattle.spec_sheet.proofs.OpLaws.TypeCodes.{none, one}
use Rattle.spec_body.proofs.RowLaws.{GoodRow}
use Rattle.spec_inputs.specs.Context.{Context, name_of}
use Rattle.spec_listing.specs.Operand.{operand_text, operand_texts}
use Rattle.spec_listing.specs.Line.{offset_text, instruction_text}
use Rattle.spec_body.specs.Record.{offset_of, opcode_of, pairs_of}
use Rattle.spec_listing.specs.Listing.{label_line}

-- pieces, each behind a comma and a space
unfoldable pub behind_commas : List (List ℕ) → List ℕ
behind_commas [] = []
behind_commas (p ∷ ps) = 44 ∷ 32 ∷ p ++ behind_commas ps

-- pieces with a comma and a space between
unfoldable pub joined : List (List ℕ) → List ℕ
joined [] = []
joined (p ∷ ps) = p ++ behind_commas ps

-- what stands behind a name: nothing, or a space and the pieces
unfoldable pub behind_name : List (List ℕ) → List ℕ
behind_name [] = []
behind_name (p ∷ ps) = 32 ∷ joined (p ∷ ps)

-- the texts of the operands, one by one
unfoldable pub operand_pieces : Bool → List ℕ → List ℕ → ℕ → List ℕ → List ℕ → List (List ℕ)
operand_pieces texts bytes ends at [] pairs = []
operand_pieces texts bytes ends at (code ∷ codes) pairs =
    let rest = operand_pieces texts bytes ends at codes (drop 2 pairs) in
    pick (eqb code 0) [] (operand_text texts bytes ends at code (get_or pairs 1 0) ∷ rest)

-- those of a record
abbrev pub pieces_of : Bool → Context → List ℕ → List (List ℕ)
pieces_of texts e r = operand_pieces texts e.bytes e.ends (offset_of r) (get_or e.types (opcode_of r) []) (pairs_of r)

-- pieces, the first behind a separator
unfoldable separated : List ℕ → List (List ℕ) → List ℕ
separated separator [] = []
separated separator (p ∷ ps) = separator ++ p ++ behind_commas ps

comma_separated : (ps : List (List ℕ)) → separated (text ", ") ps ≡ behind_commas ps
unfolding separated behind_commas text
comma_separated [] = refl
comma_separated (p ∷ ps) = refl

space_separated : (ps : List (List ℕ)) → separated (text " ") ps ≡ behind_name ps
unfolding separated behind_name joined text
space_separated [] = refl
space_separated (p ∷ ps) = refl

module _ (texts : Bool) (bytes ends : List ℕ) (at : ℕ) where
  -- an operand is one piece
  pub pieces_more : (code : ℕ) (codes pairs : List ℕ) → (code ≡ 0 → ⊥)
      → operand_pieces texts bytes ends at (code ∷ codes) pairs ≡ operand_text texts bytes ends at code (get_or pairs 1 0) ∷ operand_pieces texts bytes ends at codes (drop 2 pairs)
  unfolding operand_pieces
  pieces_more code codes pairs n = rw (ne_eqb code 0 n)

  texts_separated : (separator codes pairs : List ℕ) → operand_texts texts bytes ends at separator codes pairs ≡ separated separator (operand_pieces texts bytes ends at codes pairs)
  unfolding operand_texts operand_pieces separated
  texts_separated separator [] pairs = refl
  texts_separated separator (code ∷ codes) pairs =
      by_eqb code 0 (λ z. rw (eq-eqb code 0 z))
      (λ n. rw (ne_eqb code 0 n, texts_separated (text ", ") codes (drop 2 pairs), comma_separated (operand_pieces texts bytes ends at codes (drop 2 pairs))))

  -- the operands of a line are the pieces, joined, behind one space
  pub operand_texts_lem : (codes pairs : List ℕ) → operand_texts texts bytes ends at (text " ") codes pairs ≡ behind_name (operand_pieces texts bytes ends at codes pairs)
  operand_texts_lem codes pairs = texts_separated (text " ") codes pairs ∙ space_separated (operand_pieces texts bytes ends at codes pairs)

  -- zeros behind a row's codes contribute no piece
  pub pieces_row : (codes : List ℕ) → TypeCodes codes → (k : ℕ) (pairs : List ℕ) → operand_pieces texts bytes ends at (codes ++ replicate k 0) pairs ≡ operand_pieces texts bytes ends at codes pairs
  unfolding operand_pieces
  pieces_row [] none zero pairs = refl
  pieces_row [] none (suc k) pairs = refl
  pieces_row (code ∷ codes) (one l h t) k pairs = rw (pieces_row codes t k (drop 2 pairs))

  codes_count : (codes : List ℕ) → TypeCodes codes → (pairs : List ℕ) → length (operand_pieces texts bytes ends at codes pairs) ≡ length codes
  unfolding operand_pieces
  codes_count [] none pairs = refl
  codes_count (code ∷ codes) (one l h t) pairs =
      rw (pieces_more code codes pairs (λ z. omega arith)) (ap suc (codes_count codes t (drop 2 pairs)))

  codes_at : (codes : List ℕ) → TypeCodes codes → (pairs : List ℕ) (i : ℕ) → i < length codes
      → get_or (operand_pieces texts bytes ends at codes pairs) i [] ≡ operand_text texts bytes ends at (get_or codes i 0) (get_or pairs (2 * i + 1) 0)
  codes_at [] none pairs i h = absurd (omega arith)
  codes_at (code ∷ codes) (one l m t) pairs zero h = rw (pieces_more code codes pairs (λ z. omega arith))
  codes_at (code ∷ codes) (one l m t) pairs (suc i) h =
      let e : 2 + (2 * i + 1) ≡ 2 * suc i + 1 = omega arith in
      rw (pieces_more code codes pairs (λ z. omega arith))
      (codes_at codes t (drop 2 pairs) i (omega arith) ∙ rw (get_or-drop, e))

  module _ (row : List ℕ) (g : GoodRow row) where
    -- a row of n operands makes n pieces
    pub pieces_count : (pairs : List ℕ) → length (operand_pieces texts bytes ends at row pairs) ≡ length g.codes
    pieces_count pairs = rw (g.is_row, pieces_row g.codes g.types _ pairs) (codes_count g.codes g.types pairs)

-- offset, name and operands
pub instruction_text_lem : (offsets texts : Bool) (e : Context) (r : List ℕ) → instruction_text offsets texts e r ≡ offset_text offsets (offset_of r) ++ name_of e (opcode_of r) ++ behind_name (pieces_of texts e r)
unfolding instruction_text
instruction_text_lem offsets texts e r = rw (operand_texts_lem texts e.bytes e.ends (offset_of r) (get_or e.types (opcode_of r) []) (pairs_of r))

-- a label's line without its line end: `L5:`
abbrev pub label_head : ℕ → List ℕ
label_head at = 76 ∷ decimal at ++ (58 ∷ [])

-- behind what stands in front of each line
pub label_line_lem : (indent : List ℕ) (at : ℕ) → label_line indent at ≡ indent ++ label_head at ++ (10 ∷ [])
unfolding label_line text
label_line_lem indent at = simp append_assoc
