-- The records of a body that was decoded are encoded to the body. Assumes nothing.
use mathlib.Core.Path.{◌≡◌, refl, ap, sym, ◌∙◌}
use mathlib.Core.Bool.{true}
use mathlib.Core.List.{List, ◌∷◌, ◌++◌}
use Prim.Native.Nat.{ℕ, zero, suc, ◌+◌, ◌-◌, ◌^◌, ◌≤◌, ◌<◌}
use native.Mathlib.Omega.{arith}
use native.Mathlib.Numerals.{add-one}
use lib.Dec.{leb}
use lib.ListN.{length, drop, get_or, replicate, take-append-drop, drop_of_length-le}
use lib.Seq.{drop-drop, drop-cons}
use borrow.Author.Tests.{le-leb}
use Rattle.lists.specs.Scan.{Bytes, part}
use Rattle.lists.proofs.Tests.{both_yes}
use Rattle.lists.proofs.Parts.{bytes_drop, part_length, bytes_take, part_add}
use Rattle.spec_numbers.specs.LittleEndian.{le, le_bytes}
use Rattle.spec_numbers.proofs.ByteLaws.{le_bytes_le, le_bound}
use Rattle.spec_sheet.specs.Types.{width_of, kind_of}
use Rattle.spec_sheet.proofs.OpLaws.{TypeCodes}
use Rattle.spec_sheet.proofs.OpLaws.TypeCodes.{none, one}
use Rattle.spec_sheet.specs.Row.{sum_by, length_of, count_of, total_width}
use Rattle.spec_body.specs.Record.{pairs, record_of, join}
use Rattle.spec_body.specs.Decode.{decode_body, row_at}
use Rattle.spec_body.specs.Decode.Decoded.{decoded}
use Rattle.spec_body.specs.Encode.{good_pair, good_pairs, good_shape, prepend_bytes, encode_operands, encode_records}
use Rattle.spec_body.specs.Encode.Operands.{bytes}
use Rattle.spec_body.specs.Encode.Encoded.{encoded}
use Rattle.spec_body.proofs.DecodeLaws.{Decoding, body_stands, length_record}
use Rattle.spec_body.proofs.DecodeLaws.Decoding.{ended, more}
use Rattle.spec_body.proofs.OperandLaws.{typed_pair, kept}
use Rattle.spec_body.proofs.EncodeLaws.{OneEncoded, Encoding, pairs_used, operands_more, operands_none, one_more, records_encoded}
use Rattle.spec_body.proofs.EncodeLaws.Encoding.{no_record}
use Rattle.spec_body.proofs.RowLaws.{GoodRow, GoodRows, good_length, good_widths, good_count}

-- the bytes of a part's number are the part
pub part_back : (s : List ℕ) (p n : ℕ) → Bytes s → p + n ≤ length s → le_bytes n (le (part s p n)) ≡ part s p n
part_back s p n h l = ap (λ (k : ℕ). le_bytes k (le (part s p n))) (sym (part_length s p n l)) ∙ le_bytes_le (part s p n) (bytes_take (drop p s) n (bytes_drop s p h))

pub part_below : (s : List ℕ) (p n : ℕ) → Bytes s → le (part s p n) < 256 ^ n
part_below s p n h = le_bound n (drop p s) (bytes_drop s p h)

-- the pairs of a record that was decoded have a good shape, and are encoded to the bytes that they were read from
module _ (s : List ℕ) (h : Bytes s) where
  zeros_good : (n p : ℕ) → good_pairs n 0 (pairs (replicate n 0) s p) ≡ true
  unfolding good_pairs pairs kind_of width_of le
  zeros_good zero p = refl
  zeros_good (suc n) p = zeros_good n (p + 0)

  pairs_good : {cs : List ℕ} → TypeCodes cs → (m n p : ℕ) → m ≡ length cs + n → good_pairs m (length cs) (pairs (cs ++ replicate n 0) s p) ≡ true
  unfolding good_pairs pairs
  pairs_good none m n p e = let q : m ≡ n = omega arith in rw q (zeros_good n p)
  pairs_good (one l k t) zero n p e = absurd (omega arith)
  pairs_good (one {c} {cs} l k t) (suc m) n p e =
      let g : good_pair (kind_of c) (le (part s p (width_of c))) ≡ true = typed_pair c l k _ (part_below s p (width_of c) h) in
      pairs_used m (pairs (c ∷ cs ++ replicate n 0) s p) (length cs) ∙ both_yes _ _ g (pairs_good t m n (p + width_of c) (omega arith))

  operands_back : {cs : List ℕ} → TypeCodes cs → (n p k : ℕ) → p + total_width cs ≤ length s
      → encode_operands (cs ++ replicate n 0) (pairs (cs ++ replicate n 0) s p) k ≡ bytes (part s p (total_width cs))
  unfolding pairs sum_by prepend_bytes
  operands_back none n p k g = operands_none n _ k
  operands_back (one {c} {cs} l m t) n p k g =
      operands_more _ _ k c _ l (kept c l m (le (part s p (width_of c))) (part_below s p (width_of c) h))
      ∙ rw (part_back s p (width_of c) h (omega arith), operands_back t n (p + width_of c) (k + 1) (omega arith), part_add s p (width_of c) (total_width cs))

  -- so is the record
  module _ (types : List (List ℕ)) (last at : ℕ) (g : GoodRow (row_at types s at)) (k : get_or s at 0 ≤ last) (l : at + length_of (row_at types s at) ≤ length s) where
    shape_good : good_shape (record_of (row_at types s at) s at) ≡ true
    unfolding good_shape
    shape_good =
        let f : leb (count_of (row_at types s at)) 8 ≡ true = le-leb (count_of (row_at types s at)) 8 (omega (arith, good_count g, g.few)) in
        let p : good_pairs 8 (count_of (row_at types s at)) (pairs (row_at types s at) s (at + 1)) ≡ true =
        rw (good_count g, g.is_row) (pairs_good g.types 8 (8 - length g.codes) (at + 1) (omega (arith, g.few))) in
        both_yes _ _ f p

    operands_good : encode_operands (row_at types s at) (pairs (row_at types s at) s (at + 1)) 1 ≡ bytes (part s (at + 1) (total_width (row_at types s at)))
    operands_good =
        rw (good_widths g, g.is_row) (operands_back g.types (8 - length g.codes) (at + 1) 1 (omega (arith, good_widths g)))

    record_back : OneEncoded types last (record_of (row_at types s at) s at) (part s (at + 1) (total_width (row_at types s at)))
    record_back = record { shape = shape_good; known = k; counted = refl; operands = operands_good }

  -- the bytes of an instruction, and those behind it
  pub instruction_split : (at n : ℕ) → at < length s → drop at s ≡ get_or s at 0 ∷ part s (at + 1) n ++ drop (at + (1 + n)) s
  instruction_split at n g =
      let e : at + (1 + n) ≡ (at + 1) + n = omega arith in
      rw (e, sym (drop-drop n (at + 1) s), take-append-drop n (drop (at + 1) s), add-one at) (drop-cons s at 0 g)

  decoding_encoded : (types : List (List ℕ)) (last : ℕ) → GoodRows types → last ≤ 255 → {at : ℕ} {rs : List (List ℕ)} → Decoding types last s at rs → Encoding types last (join rs) (drop at s)
  unfolding join
  decoding_encoded types last g l (ended e) = rw (drop_of_length-le s e) (no_record refl)
  decoding_encoded types last g l {at} (more a k b d) =
      let row : GoodRow (row_at types s at) = g (get_or s at 0) (omega arith) in
      rw (instruction_split at (total_width (row_at types s at)) a)
      (one_more types last (length_record (row_at types s at) s at (good_length row)) (record_back types last at row k b) (decoding_encoded types last g l d))

-- the first round trip
pub reencoded : (types : List (List ℕ)) (last : ℕ) (s : List ℕ) (rs : List (List ℕ)) → GoodRows types → last ≤ 255 → Bytes s
    → decode_body types last s ≡ decoded rs → encode_records types last (join rs) ≡ encoded s
reencoded types last s rs g l h e = records_encoded types last (join rs) (decoding_encoded s h types last g l (body_stands types last s rs e))
