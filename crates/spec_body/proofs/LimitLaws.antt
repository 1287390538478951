-- How large the results are: encoded bytes are bytes, and the words of decoded records have 64 bits. Assumes nothing.
use mathlib.Core.Path.{◌≡◌, refl, ap, sym}
use mathlib.Core.List.{List, [], ◌∷◌, ◌++◌}
use Prim.Native.Nat.{ℕ, zero, suc, ◌+◌, ◌/◌, ◌^◌, ◌≤◌, ◌<◌}
use native.Mathlib.Nat.{lt_of_lt_of_le, pow-le-pow_right}
use native.Mathlib.Omega.{arith}
use lib.Dec.{leb}
use lib.ListN.{length, take, drop, get_or, get_or-eq_default}
use borrow.Author.Tests.{leb-true, eq-eqb, ne_eqb}
use Rattle.lists.specs.Scan.{Bytes}
use Rattle.lists.proofs.Tests.{by_leb, by_eqb}
use Rattle.spec_numbers.specs.LittleEndian.{le_bytes}
use Rattle.spec_numbers.proofs.ByteLaws.{le_bytes_bytes}
use Rattle.spec_sheet.specs.Types.{widths, kinds, width_of, kind_of}
use Rattle.spec_sheet.specs.Row.{sum_by, length_of, count_of}
use Rattle.spec_body.specs.Record.{pairs, record_of, join}
use Rattle.spec_body.specs.Decode.{decode_body, row_at}
use Rattle.spec_body.specs.Decode.Decoded.{decoded}
use Rattle.spec_body.specs.Starts.{spans}
use Rattle.spec_body.specs.Encode.{encode_operands, encode_records}
use Rattle.spec_body.specs.Encode.Operands.{bytes}
use Rattle.spec_body.specs.Encode.Encoded.{encoded}
use Rattle.spec_body.specs.Recode.{recoded_from, recoded}
use Rattle.spec_body.proofs.DecodeLaws.{Decoding, body_stands}
use Rattle.spec_body.proofs.DecodeLaws.Decoding.{ended, more}
use Rattle.spec_body.proofs.StartLaws.{length_sum}
use Rattle.spec_body.proofs.OperandLaws.{every}
use Rattle.spec_body.proofs.EncodeLaws.{Encoding, encoded_records, operand_then}
use Rattle.spec_body.proofs.EncodeLaws.Encoding.{no_record, a_record}
use Rattle.spec_body.proofs.RowLaws.{GoodRows, good_length}
use Rattle.spec_body.proofs.ReencodeLaws.{part_below}
use Rattle.spec_body.proofs.RedecodeLaws.{redecoded}

-- every element is below a number
pub data Below (n : ℕ) : List ℕ → Type 0 where
  below_none : Below n []
  below_one : {a : ℕ} {s : List ℕ} → a < n → Below n s → Below n (a ∷ s)

pub below_at : {n : ℕ} {s : List ℕ} → 0 < n → Below n s → (i : ℕ) → get_or s i 0 < n
below_at h below_none i = h
below_at h (below_one l b) zero = l
below_at h (below_one l b) (suc i) = below_at h b i

pub below_every : (n : ℕ) (s : List ℕ) → ((i : ℕ) → get_or s i 0 < n) → Below n s
below_every n [] f = below_none
below_every n (a ∷ s) f = below_one (f 0) (below_every n s (λ i. f (suc i)))

below_append : {n : ℕ} {s t : List ℕ} → Below n s → Below n t → Below n (s ++ t)
below_append below_none d = d
below_append (below_one l b) d = below_one l (below_append b d)

-- encoding
operands_bytes : (row words : List ℕ) (k : ℕ) (os : List ℕ) → encode_operands row words k ≡ bytes os → Below 256 os
unfolding encode_operands
operands_bytes [] words k os e = let q : os ≡ [] = cc e in rw q below_none
operands_bytes (zero ∷ row) words k os e = let q : os ≡ [] = cc e in rw q below_none
operands_bytes (suc c ∷ row) words k os e =
    operand_then row words k (suc c) os (omega arith) e λ v ms w x y.
    rw (sym y) (below_append (below_every 256 (le_bytes (width_of (suc c)) v) (le_bytes_bytes (width_of (suc c)) v)) (operands_bytes row (drop 2 words) (k + 1) ms x))

encoding_bytes : (types : List (List ℕ)) (last : ℕ) {words bs : List ℕ} → last ≤ 255 → Encoding types last words bs → Below 256 bs
encoding_bytes types last h (no_record e) = below_none
encoding_bytes types last h (a_record {words} {os} k o d) =
    let b : get_or (take 20 words) 1 0 < 256 = omega (arith, o.known) in
    below_one b (below_append (operands_bytes _ _ 1 os o.operands) (encoding_bytes types last h d))

pub encoded_bytes : (types : List (List ℕ)) (last : ℕ) (words bs : List ℕ) → last ≤ 255 → encode_records types last words ≡ encoded bs → Bytes bs
encoded_bytes types last words bs h e = below_at (omega arith) (encoding_bytes types last h (encoded_records types last words bs e))

-- as many records are decoded as were encoded, and their lengths are those of the bytes
recoded_from_lem : (n : ℕ) (types : List (List ℕ)) (words : List ℕ) (at : ℕ) → length (recoded_from n types words at) ≡ n
unfolding recoded_from
recoded_from_lem zero types words at = refl
recoded_from_lem (suc n) types words at = ap suc (recoded_from_lem n types _ _)

pub recoded_count : (types : List (List ℕ)) (words : List ℕ) → length (recoded types words) ≡ length words / 20
recoded_count types words = recoded_from_lem (length words / 20) types words 0

pub encoded_length : (types : List (List ℕ)) (last : ℕ) (words bs : List ℕ) → GoodRows types → last ≤ 255 → encode_records types last words ≡ encoded bs
    → spans (recoded types words) ≡ length bs
encoded_length types last words bs g l e = length_sum types last bs (recoded types words) (redecoded types last words bs g l e)

-- decoding: whatever the code, at most eight bytes and a kind of at most 5
width_few : (c : ℕ) → width_of c ≤ 8
unfolding width_of
width_few c =
    by_leb c 12 (λ h. leb-true _ 8 (every (λ n. leb (get_or widths n 0) 8) 0 13 refl c (omega arith) (omega arith)))
    (λ h. rw (get_or-eq_default widths 0 h) (omega arith))

kind_few : (c : ℕ) → kind_of c ≤ 5
unfolding kind_of
kind_few c =
    by_leb c 12 (λ h. leb-true _ 5 (every (λ n. leb (get_or kinds n 0) 5) 0 13 refl c (omega arith) (omega arith)))
    (λ h. rw (get_or-eq_default kinds 0 h) (omega arith))

count_few : (row : List ℕ) → count_of row ≤ length row
unfolding sum_by
count_few [] = omega arith
count_few (c ∷ row) = by_eqb c 0 (λ e. rw (eq-eqb c 0 e) (omega (arith, count_few row))) (λ e. rw (ne_eqb c 0 e) (omega (arith, count_few row)))

module _ (s : List ℕ) (h : Bytes s) where
  pairs_small : (row : List ℕ) (p : ℕ) → Below (2 ^ 64) (pairs row s p)
  unfolding pairs
  pairs_small [] p = below_none
  pairs_small (c ∷ row) p =
      let k : kind_of c < 2 ^ 64 = omega (arith, kind_few c) in
      below_one k
      (below_one (lt_of_lt_of_le (part_below s p (width_of c) h) (pow-le-pow_right {n = 256} (omega arith) (width_few c))) (pairs_small row (p + width_of c)))

  record_small : (row : List ℕ) (at : ℕ) → length row ≡ 8 → length s < 2 ^ 64 → at + length_of row ≤ length s → Below (2 ^ 64) (record_of row s at)
  record_small row at e l k =
      let a : at < 2 ^ 64 = omega arith in
      let b : get_or s at 0 < 2 ^ 64 = omega (arith, h at) in
      let c : length_of row < 2 ^ 64 = omega arith in
      let d : count_of row < 2 ^ 64 = omega (arith, count_few row) in
      below_one a (below_one b (below_one c (below_one d (pairs_small row (at + 1)))))

  decoding_small : (types : List (List ℕ)) (last : ℕ) → GoodRows types → last ≤ 255 → length s < 2 ^ 64 → {at : ℕ} {rs : List (List ℕ)}
      → Decoding types last s at rs → Below (2 ^ 64) (join rs)
  unfolding join
  decoding_small types last g b l (ended e) = below_none
  decoding_small types last g b l {at} (more a k e d) =
      below_append (record_small (row_at types s at) at (good_length (g (get_or s at 0) (omega arith))) l e) (decoding_small types last g b l d)

pub decoded_small : (types : List (List ℕ)) (last : ℕ) (s : List ℕ) (rs : List (List ℕ)) → GoodRows types → last ≤ 255 → Bytes s → length s < 2 ^ 64
    → decode_body types last s ≡ decoded rs → Below (2 ^ 64) (join rs)
decoded_small types last s rs g b h l e = decoding_small s h types last g b l (body_stands types last s rs e)
