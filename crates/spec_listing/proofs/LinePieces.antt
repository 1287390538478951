-- All pieces of a listed line at once. Assumes nothing.
use mathlib.Core.Path.{◌≡◌}
use mathlib.Core.Bool.{Bool, true}
use mathlib.Core.List.{List, [], ◌∷◌}
use Prim.Native.Nat.{ℕ, suc, ◌+◌, ◌*◌, ◌<◌}
use native.Mathlib.Omega.{arith}
use lib.Dec.{ltb}
use lib.ListN.{length, get_or, drop}
use lib.Seq.{get_or-drop}
use Rattle.lists.specs.Choice.{both}
use Rattle.spec_sheet.specs.Types.{family_of}
use Rattle.spec_sheet.proofs.OpLaws.{TypeCodes}
use Rattle.spec_sheet.proofs.OpLaws.TypeCodes.{none, one}
use Rattle.spec_strings.specs.Table.{text_of}
use Rattle.spec_strings.specs.Plain.{plain}
use Rattle.spec_body.proofs.RowLaws.{GoodRow}
use Rattle.spec_listing.specs.Operand.{operand_text}
use Rattle.spec_listing.proofs.LineShape.{operand_pieces, pieces_more, pieces_row}
use Rattle.spec_listing.proofs.PieceBytes.{Piece, operand_piece}

-- something holds of each piece
pub data Every (P : List ℕ → Type 0) : List (List ℕ) → Type 0 where
  nothing : Every P []
  more : {p : List ℕ} {ps : List (List ℕ)} → P p → Every P ps → Every P (p ∷ ps)

module _ (texts : Bool) (bytes ends : List ℕ) (at : ℕ) where
  codes_every : (P : List ℕ → Type 0) (codes : List ℕ) → TypeCodes codes → (pairs : List ℕ)
      → ((i : ℕ) → i < length codes → P (operand_text texts bytes ends at (get_or codes i 0) (get_or pairs (2 * i + 1) 0))) → Every P (operand_pieces texts bytes ends at codes pairs)
  unfolding operand_pieces
  codes_every P [] none pairs f = nothing
  codes_every P (code ∷ codes) (one l h t) pairs f =
      rw (pieces_more texts bytes ends at code codes pairs (λ z. omega arith))
      (more (f 0 (omega arith)) (codes_every P codes t (drop 2 pairs) rest))
    where
      rest : (i : ℕ) → i < length codes → P (operand_text texts bytes ends at (get_or codes i 0) (get_or (drop 2 pairs) (2 * i + 1) 0))
      rest i m = let e : 2 * suc i + 1 ≡ 2 + (2 * i + 1) = omega arith in rw get_or-drop (rw e at (f (suc i) (omega arith)))

  module _ (row : List ℕ) (g : GoodRow row) (pairs : List ℕ) where
    -- what holds of each operand holds of each piece
    pub pieces_every : (P : List ℕ → Type 0) → ((i : ℕ) → i < length g.codes → P (operand_text texts bytes ends at (get_or g.codes i 0) (get_or pairs (2 * i + 1) 0)))
        → Every P (operand_pieces texts bytes ends at row pairs)
    pieces_every P f = rw (g.is_row, pieces_row texts bytes ends at g.codes g.types _ pairs) (codes_every P g.codes g.types pairs f)

    -- each is a token or a quoted text, where the texts that are shown are plain
    pub plain_pieces : ((i : ℕ) → family_of (get_or g.codes i 0) ≡ 3 → both texts (ltb (get_or pairs (2 * i + 1) 0) (length ends)) ≡ true
        → plain (text_of bytes ends (get_or pairs (2 * i + 1) 0)) ≡ true)
        → Every Piece (operand_pieces texts bytes ends at row pairs)
    plain_pieces f = pieces_every Piece (λ i h. operand_piece texts bytes ends at (get_or g.codes i 0) (get_or pairs (2 * i + 1) 0) (f i))
