-- An instruction's pieces, assembled under its row of types, give its bytes. Assumes nothing.
use mathlib.Core.Path.{◌≡◌, refl, ap, sym, ◌∙◌}
use mathlib.Core.Bool.{true}
use mathlib.Core.List.{List, [], ◌∷◌, ◌++◌}
use Prim.Native.Nat.{ℕ, zero, suc, ◌+◌, ◌-◌, ◌*◌, ◌^◌, ◌≤◌, ◌<◌}
use native.Mathlib.Omega.{arith}
use lib.Dec.{leb}
use lib.ListN.{length, get_or, drop, replicate}
use lib.Seq.{get_or-drop}
use Rattle.lists.proofs.Parts.{part_add}
use Rattle.lists.specs.Scan.{Bytes, all, part}
use Rattle.lists.specs.Found.{Found}
use Rattle.lists.proofs.Tests.{both_yes}
use Rattle.spec_numbers.specs.LittleEndian.{le, le_bytes}
use Rattle.spec_sheet.specs.Types.{family_of, width_of}
use Rattle.spec_sheet.proofs.OpLaws.{TypeCodes}
use Rattle.spec_sheet.proofs.OpLaws.TypeCodes.{none, one}
use Rattle.spec_sheet.specs.Row.{sum_by, total_width}
use Rattle.spec_body.specs.Record.{pairs}
use Rattle.spec_body.proofs.OperandLaws.{no_zero}
use Rattle.spec_body.proofs.RowLaws.{GoodRow, good_widths}
use Rattle.spec_body.proofs.ReencodeLaws.{part_back, part_below}
use Rattle.spec_inputs.specs.Context.{Context}
use Rattle.spec_listing.proofs.LineShape.{operand_pieces, pieces_more}
use Rattle.spec_listing.proofs.PieceBytes.{Piece}
use Rattle.spec_listing.proofs.LinePieces.{Every, plain_pieces}
use Rattle.spec_hasm.specs.Token.{token_value}
use Rattle.spec_hasm.specs.Token.Value.{value}
use Rattle.spec_hasm.specs.Assemble.{prepend, on_value, operands_from}
use Rattle.spec_hasm.specs.Assemble.Operands.{written}
use Rattle.theorems.specs.Premises.{good_operand, good_operands}
use Rattle.theorems.proofs.PremiseLaws.{string_plain, operand_string, operands_first, operands_rest}
use Rattle.theorems.proofs.Values.{operand_back}

-- the operands of a row, one by one: its end, and an operand more
module _ (e : Context) (labels : List ℕ → Found) (at n : ℕ) where
  row_end : (k : ℕ) (ts : List (List ℕ)) → operands_from e labels at n (replicate k 0) ts ≡ written []
  unfolding operands_from
  row_end zero ts = refl
  row_end (suc k) ts = refl

  row_more : (c v : ℕ) (cs t : List ℕ) (ts : List (List ℕ)) (bs : List ℕ) → 0 < c → token_value e.bytes e.ends labels at c t ≡ value v
      → operands_from e labels at (suc n) cs ts ≡ written bs → operands_from e labels at n (c ∷ cs) (t ∷ ts) ≡ written (le_bytes (width_of c) v ++ bs)
  unfolding operands_from on_value prepend
  row_more c v cs t ts bs h f g = rw (no_zero c h, f, g)

-- what holds of a row's operands holds of those in front of its zeros, and of each
module _ (e : Context) (places : List ℕ) (at : ℕ) where
  codes_good : (cs : List ℕ) (k : ℕ) (ps : List ℕ) → good_operands e places at (cs ++ replicate k 0) ps ≡ true → good_operands e places at cs ps ≡ true
  unfolding good_operands
  codes_good [] k ps g = refl
  codes_good (c ∷ cs) k ps g =
      both_yes (good_operand e places at c (get_or ps 1 0)) _ (operands_first e places at c (cs ++ replicate k 0) ps g) (codes_good cs k (drop 2 ps) (operands_rest e places at c (cs ++ replicate k 0) ps g))

  none_good : (bits : ℕ) → good_operand e places at 0 bits ≡ true
  unfolding good_operand family_of
  none_good bits = refl

  code_good : (cs ps : List ℕ) → good_operands e places at cs ps ≡ true → (i : ℕ) → good_operand e places at (get_or cs i 0) (get_or ps (2 * i + 1) 0) ≡ true
  code_good [] ps g i = none_good (get_or ps (2 * i + 1) 0)
  code_good (c ∷ cs) ps g zero = operands_first e places at c cs ps g
  code_good (c ∷ cs) ps g (suc i) =
      let q : 2 * suc i + 1 ≡ 2 + (2 * i + 1) = omega arith in
      rw q (rw get_or-drop at (code_good cs (drop 2 ps) (operands_rest e places at c cs ps g) i))

-- an instruction that stands at `at` in a body s
module _ (e : Context) (places : List ℕ) (low : all (λ x. leb x 65536) places ≡ true) (s : List ℕ) (b : Bytes s) (at : ℕ) (near : at < 2 ^ 31) (row : List ℕ) (g : GoodRow row)
    (good : good_operands e places at row (pairs row s (at + 1)) ≡ true) where
  -- each operand is a piece
  pub every_piece : Every Piece (operand_pieces true e.bytes e.ends at row (pairs row s (at + 1)))
  every_piece =
      plain_pieces true e.bytes e.ends at row g (pairs row s (at + 1))
      (λ i f h. string_plain e _ (operand_string e places at _ _ (code_good e places at g.codes (pairs row s (at + 1)) goods i) f))
    where
      goods : good_operands e places at g.codes (pairs row s (at + 1)) ≡ true
      goods = codes_good e places at g.codes (8 - length g.codes) (pairs row s (at + 1)) (sym (ap (λ (r : List ℕ). good_operands e places at r (pairs row s (at + 1))) g.is_row) ∙ good)

  module _ (labels : List ℕ → Found) where
    codes_back : {cs : List ℕ} → TypeCodes cs → (k p n : ℕ) → p + total_width cs ≤ length s → good_operands e places at (cs ++ replicate k 0) (pairs (cs ++ replicate k 0) s p) ≡ true
        → operands_from e labels at n (cs ++ replicate k 0) (operand_pieces true e.bytes e.ends at (cs ++ replicate k 0) (pairs (cs ++ replicate k 0) s p)) ≡ written (part s p (total_width cs))
    unfolding sum_by pairs
    codes_back none k p n h q = row_end e labels at n k _
    codes_back (one {c} {cs} l m t) k p n h q =
        let bits = le (part s p (width_of c)) in
        let more = pairs (cs ++ replicate k 0) s (p + width_of c) in
        let first = operands_first e places at c (cs ++ replicate k 0) (pairs (c ∷ cs ++ replicate k 0) s p) q in
        let back = operand_back e labels places at c bits near low l m (part_below s p (width_of c) b) first in
        let rest = codes_back t k (p + width_of c) (suc n) (omega arith) (operands_rest e places at c (cs ++ replicate k 0) (pairs (c ∷ cs ++ replicate k 0) s p) q) in
        ap (λ (ts : List (List ℕ)). operands_from e labels at n (c ∷ cs ++ replicate k 0) ts) (pieces_more true e.bytes e.ends at c (cs ++ replicate k 0) (pairs (c ∷ cs ++ replicate k 0) s p) (λ z. omega arith))
        ∙ row_more e labels at n c back.bits (cs ++ replicate k 0) _ _ (part s (p + width_of c) (total_width cs)) l back.value_is rest
        ∙ ap written (rw (back.bytes_are, part_back s p (width_of c) b (omega arith), part_add s p (width_of c) (total_width cs)))

    -- its operands are written as they stand in the body
    pub operands_back : at + 1 + total_width row ≤ length s
        → operands_from e labels at 1 row (operand_pieces true e.bytes e.ends at row (pairs row s (at + 1))) ≡ written (part s (at + 1) (total_width row))
    operands_back h =
        rw (good_widths g, g.is_row) (codes_back g.types (8 - length g.codes) (at + 1) 1 (omega (arith, good_widths g)) (rw g.is_row at good))
