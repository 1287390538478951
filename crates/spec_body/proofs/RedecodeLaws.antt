-- The bytes of records that were encoded are decoded to the same records, their offsets and lengths anew. Assumes nothing.
use mathlib.Core.Path.{◌≡◌, refl, ap, sym, ◌∙◌}
use mathlib.Core.Bool.{true}
use mathlib.Core.List.{List, [], ◌∷◌, ◌++◌, append_assoc}
use Prim.Native.Nat.{ℕ, zero, suc, ◌+◌, ◌-◌, ◌*◌, ◌/◌, ◌^◌, ◌≤◌, ◌<◌}
use native.Mathlib.Nat.{add-zero}
use native.Mathlib.Omega.{arith}
use lib.Dec.{leb, eqb}
use lib.ListN.{length, take, drop, get_or, replicate, length-append, length-drop}
use lib.Seq.{drop-drop, take_at, drop_at, get_or-drop}
use borrow.Author.Tests.{eqb-true}
use Rattle.lists.specs.Choice.{both}
use Rattle.lists.specs.Scan.{Bytes, part}
use Rattle.lists.proofs.Tests.{both_left, both_right}
use Rattle.spec_numbers.specs.LittleEndian.{le, le_bytes}
use Rattle.spec_body.specs.Encode.Fitted.{fits}
use Rattle.spec_numbers.proofs.ByteLaws.{le_le_bytes, length_le_bytes}
use Rattle.spec_sheet.specs.Types.{width_of, kind_of}
use Rattle.spec_sheet.proofs.OpLaws.{TypeCodes}
use Rattle.spec_sheet.proofs.OpLaws.TypeCodes.{none, one}
use Rattle.spec_sheet.specs.Row.{sum_by, length_of, total_width}
use Rattle.spec_body.specs.Record.{pairs, record_of, join, record_words}
use Rattle.spec_body.specs.Decode.{decode_body, row_at}
use Rattle.spec_body.specs.Decode.Decoded.{decoded}
use Rattle.spec_body.specs.Encode.{kind_widths, good_pairs, good_shape, encode_operand, encode_operands, encode_records}
use Rattle.spec_body.specs.Encode.Operands.{bytes}
use Rattle.spec_body.specs.Encode.Encoded.{encoded}
use Rattle.spec_body.specs.Recode.{written_bits, recoded_pairs, recoded_record, recoded_from, recoded, written_number}
use Rattle.spec_body.proofs.DecodeLaws.{Decoding, body_decoded}
use Rattle.spec_body.proofs.DecodeLaws.Decoding.{ended, more}
use Rattle.spec_body.proofs.OperandLaws.{no_zero, kept, kind_width, pair_bound, written_fits}
use Rattle.spec_body.proofs.EncodeLaws.{OneEncoded, Encoding, used_pair, pairs_behind, operands_none, operand_then, encoded_records}
use Rattle.spec_body.proofs.EncodeLaws.Encoding.{no_record, a_record}
use Rattle.spec_body.proofs.RowLaws.{GoodRow, GoodRows, good_widths, good_count}
use Rattle.spec_body.proofs.ReencodeLaws.{reencoded}

-- operands that were written, each in its type's bytes
pub data Written : List ℕ → List ℕ → List ℕ → Type 0 where
  no_operand : {words : List ℕ} → Written [] words []
  an_operand : {c v : ℕ} {cs words os : List ℕ} → 0 < c → encode_operand c (get_or words 0 0) (get_or words 1 0) ≡ fits v → v < 256 ^ width_of c
      → Written cs (drop 2 words) os → Written (c ∷ cs) words (le_bytes (width_of c) v ++ os)

operands_written : {cs : List ℕ} → TypeCodes cs → (m n k : ℕ) (words os : List ℕ) → m ≡ length cs + n → good_pairs m (length cs) words ≡ true
    → encode_operands (cs ++ replicate n 0) words k ≡ bytes os → Written cs words os
operands_written none m n k words os q g e =
    let z : os ≡ [] = cc (sym (operands_none n words k) ∙ e) in
    rw z no_operand
operands_written (one l h t) zero n k words os q g e = absurd (omega arith)
operands_written (one {c} {cs} l h t) (suc m) n k words os q g e =
    operand_then (cs ++ replicate n 0) words k c os l e λ v ms w x y.
    rw (sym y)
    (an_operand l w (written_fits c l h _ _ v (used_pair m words (length cs) g) w) (operands_written t m n (k + 1) (drop 2 words) ms (omega arith) (pairs_behind m words (length cs) g) x))

written_length : {cs words os : List ℕ} → Written cs words os → length os ≡ total_width cs
unfolding sum_by
written_length no_operand = refl
written_length (an_operand {c} {v} {cs} {words} {os} l e h w) = omega (arith, length-append (le_bytes (width_of c) v) os, length_le_bytes (width_of c) v, written_length w)

-- the pairs of an encoded record, of which as many are used as its types are
shape_pairs : (types : List (List ℕ)) (last : ℕ) (r os : List ℕ) → OneEncoded types last r os → (g : GoodRow (get_or types (get_or r 1 0) []))
    → good_pairs 8 (length g.codes) (drop 4 r) ≡ true
unfolding good_shape
shape_pairs types last r os o g = rw (o.counted ∙ good_count g) at (both_right (leb (get_or r 3 0) 8) _ o.shape)

-- operands that were written stand in any list that has their bytes at a place, and are read from there
module _ (s : List ℕ) where
  zeros_read : (n p : ℕ) (words : List ℕ) → pairs (replicate n 0) s p ≡ recoded_pairs (replicate n 0) words
  unfolding pairs recoded_pairs written_bits width_of le
  zeros_read zero p words = refl
  zeros_read (suc n) p words = ap (λ (r : List ℕ). kind_of 0 ∷ 0 ∷ r) (zeros_read n (p + 0) (drop 2 words))

  written_read : {cs words os : List ℕ} → Written cs words os → (n p : ℕ) (post : List ℕ) → drop p s ≡ os ++ post
      → pairs (cs ++ replicate n 0) s p ≡ recoded_pairs (cs ++ replicate n 0) words
  unfolding pairs recoded_pairs written_bits written_number
  written_read {words = words} no_operand n p post e = zeros_read n p words
  written_read (an_operand {c} {v} {cs} {words} {os} l w h r) n p post e =
      let q : drop p s ≡ le_bytes (width_of c) v ++ (os ++ post) = e ∙ append_assoc (le_bytes (width_of c) v) os post in
      let f : part s p (width_of c) ≡ le_bytes (width_of c) v = ap (take (width_of c)) q ∙ take_at (le_bytes (width_of c) v) (os ++ post) (width_of c) (length_le_bytes (width_of c) v) in
      let d : drop (p + width_of c) s ≡ os ++ post =
      sym (drop-drop (width_of c) p s) ∙ (ap (drop (width_of c)) q ∙ drop_at (le_bytes (width_of c) v) (os ++ post) (width_of c) (length_le_bytes (width_of c) v)) in
      rw (f, le_le_bytes (width_of c) v h, no_zero c l, w, written_read r n (p + width_of c) post d)

  -- so is a record
  module _ (types : List (List ℕ)) (last at : ℕ) (r os post : List ℕ) (o : OneEncoded types last r os) (g : GoodRow (get_or types (get_or r 1 0) [])) (e : drop at s ≡ get_or r 1 0 ∷ os ++ post) where
    opcode_read : get_or s at 0 ≡ get_or r 1 0
    opcode_read = ap (λ (i : ℕ). get_or s i 0) (sym (add-zero at)) ∙ (sym (get_or-drop at s 0 0) ∙ ap (λ (l : List ℕ). get_or l 0 0) e)

    behind_opcode : drop (at + 1) s ≡ os ++ post
    behind_opcode = sym (drop-drop 1 at s) ∙ ap (drop 1) e

    row_written : Written g.codes (drop 4 r) os
    row_written =
        operands_written g.types 8 (8 - length g.codes) 1 (drop 4 r) os (omega (arith, g.few)) (shape_pairs types last r os o g) (rw g.is_row at o.operands)

    operands_length : length os ≡ total_width (get_or types (get_or r 1 0) [])
    operands_length = written_length row_written ∙ sym (good_widths g)

    record_read : record_of (row_at types s at) s at ≡ recoded_record (get_or types (get_or r 1 0) []) r at
    record_read =
        let p : pairs (get_or types (get_or r 1 0) []) s (at + 1) ≡ recoded_pairs (get_or types (get_or r 1 0) []) (drop 4 r) =
        rw g.is_row (written_read row_written (8 - length g.codes) (at + 1) post behind_opcode) in
        rw (opcode_read, p, o.counted)

    -- and it lies inside
    record_inside : at + length_of (get_or types (get_or r 1 0) []) ≤ length s
    record_inside = omega (arith, ap length e, length-drop at s, length-append os post, operands_length)

    behind_record : drop (at + length_of (get_or types (get_or r 1 0) [])) s ≡ post
    behind_record =
        let q : at + length_of (get_or types (get_or r 1 0) []) ≡ (at + 1) + length os = omega (arith, operands_length) in
        rw q (sym (drop-drop (length os) (at + 1) s) ∙ (ap (drop (length os)) behind_opcode ∙ drop_at os post (length os) refl))

    record_decoded : {rs : List (List ℕ)} → Decoding types last s (at + length_of (get_or types (get_or r 1 0) [])) rs
        → Decoding types last s at (recoded_record (get_or types (get_or r 1 0) []) r at ∷ rs)
    record_decoded {rs} d =
        let w : row_at types s at ≡ get_or types (get_or r 1 0) [] = ap (λ (k : ℕ). get_or types k []) opcode_read in
        let i : at + length_of (row_at types s at) ≤ length s = rw w record_inside in
        let h : at < length s = omega arith in
        let k : get_or s at 0 ≤ last = rw opcode_read o.known in
        let x : Decoding types last s (at + length_of (row_at types s at)) rs = rw w d in
        let y : Decoding types last s at (record_of (row_at types s at) s at ∷ rs) = more h k i x in
        rw record_read at y

  encoding_decoded : (types : List (List ℕ)) (last : ℕ) → GoodRows types → last ≤ 255 → {words bs : List ℕ} → Encoding types last words bs
      → (n at : ℕ) → length words ≡ 20 * n → drop at s ≡ bs → Decoding types last s at (recoded_from n types words at)
  unfolding recoded_from
  encoding_decoded types last g l (no_record e) zero at q d =
      let h : length s ≤ at = omega (arith, ap length d, length-drop at s) in
      ended h
  encoding_decoded types last g l (no_record e) (suc n) at q d = absurd (omega arith)
  encoding_decoded types last g l (a_record k o r) zero at q d = absurd (omega arith)
  encoding_decoded types last g l (a_record {words} {os} {bs} k o r) (suc n) at q d =
      let row : GoodRow (get_or types (get_or (take 20 words) 1 0) []) = g (get_or (take 20 words) 1 0) (omega (arith, o.known)) in
      record_decoded types last at (take 20 words) os bs o row d
      (encoding_decoded types last g l r n _ (omega (arith, length-drop 20 words)) (behind_record types last at (take 20 words) os bs o row d))

-- records that are encoded are whole
pub encoding_whole : {types : List (List ℕ)} {last : ℕ} {words bs : List ℕ} → Encoding types last words bs → length words ≡ 20 * (length words / 20)
encoding_whole (no_record e) = omega arith
encoding_whole (a_record {words} k o d) = omega (arith, encoding_whole d, length-drop 20 words)

-- the second round trip
pub redecoded : (types : List (List ℕ)) (last : ℕ) (words bs : List ℕ) → GoodRows types → last ≤ 255
    → encode_records types last words ≡ encoded bs → decode_body types last bs ≡ decoded (recoded types words)
redecoded types last words bs g l e =
    let d = encoded_records types last words bs e in
    body_decoded types last bs (encoding_decoded bs types last g l d (length words / record_words) 0 (encoding_whole d) refl)

-- the records of a decoded body round-trip
pub recoded_back : (types : List (List ℕ)) (last : ℕ) (s : List ℕ) (rs : List (List ℕ)) → GoodRows types → last ≤ 255 → Bytes s
    → decode_body types last s ≡ decoded rs → recoded types (join rs) ≡ rs
recoded_back types last s rs g l h e = cc (sym (redecoded types last (join rs) s g l (reencoded types last s rs g l h e)) ∙ e)

-- bits of a type's own kind round-trip
pub kept_bits : (c : ℕ) → 0 < c → c ≤ 12 → (bits : ℕ) → bits < 256 ^ width_of c → written_bits c (kind_of c) bits ≡ bits
unfolding written_bits written_number
kept_bits c l h bits b = rw (no_zero c l, kept c l h bits b)

-- the kinds of the first pairs are those of type codes
abbrev pub SameKinds : List ℕ → List ℕ → Type 0
SameKinds cs words = (i : ℕ) → i < length cs → get_or words (2 * i) 0 ≡ kind_of (get_or cs i 0)

zeros_kept : (n : ℕ) (words : List ℕ) → length words ≡ 2 * n → good_pairs n 0 words ≡ true → recoded_pairs (replicate n 0) words ≡ words
unfolding recoded_pairs written_bits good_pairs kind_of
zeros_kept zero [] q g = refl
zeros_kept zero (a ∷ words) q g = absurd (omega arith)
zeros_kept (suc n) [] q g = absurd (omega arith)
zeros_kept (suc n) (a ∷ []) q g = absurd (omega arith)
zeros_kept (suc n) (a ∷ b ∷ words) q g =
    let p : both (eqb a 0) (eqb b 0) ≡ true = both_left (both (eqb a 0) (eqb b 0)) (good_pairs n 0 words) g in
    let x : a ≡ 0 = eqb-true a 0 (both_left (eqb a 0) (eqb b 0) p) in
    let y : b ≡ 0 = eqb-true b 0 (both_right (eqb a 0) (eqb b 0) p) in
    rw (x, y, zeros_kept n words (omega arith) (both_right (both (eqb a 0) (eqb b 0)) (good_pairs n 0 words) g))

kinds_behind : (c : ℕ) (cs : List ℕ) (a b : ℕ) (words : List ℕ) → SameKinds (c ∷ cs) (a ∷ b ∷ words) → SameKinds cs words
kinds_behind c cs a b words k i h =
    let e : 2 * suc i ≡ suc (suc (2 * i)) = omega arith in
    rw e at (k (suc i) (omega arith))

pairs_kept : {cs : List ℕ} → TypeCodes cs → (m n : ℕ) (words : List ℕ) → m ≡ length cs + n → length words ≡ 2 * m → good_pairs m (length cs) words ≡ true
    → SameKinds cs words → recoded_pairs (cs ++ replicate n 0) words ≡ words
unfolding recoded_pairs
pairs_kept none m n words e q g k = zeros_kept n words (omega arith) (let f : n ≡ m = omega arith in rw f g)
pairs_kept (one l h t) zero n words e q g k = absurd (omega arith)
pairs_kept (one l h t) (suc m) n [] e q g k = absurd (omega arith)
pairs_kept (one l h t) (suc m) n (a ∷ []) e q g k = absurd (omega arith)
pairs_kept (one {c} {cs} l h t) (suc m) n (a ∷ b ∷ words) e q g k =
    let x : a ≡ kind_of c = k 0 (omega arith) in
    let d : get_or kind_widths a 0 ≡ width_of c = ap (λ (i : ℕ). get_or kind_widths i 0) x ∙ kind_width c l h in
    let y : b < 256 ^ width_of c = rw d at (pair_bound a b (used_pair m (a ∷ b ∷ words) (length cs) g)) in
    let r : recoded_pairs (cs ++ replicate n 0) words ≡ words = pairs_kept t m n words (omega arith) (omega arith) (pairs_behind m (a ∷ b ∷ words) (length cs) g) (kinds_behind c cs a b words k) in
    rw (x, kept_bits c l h b y, r)

-- so a record whose kinds are those of its types is the same but for its offset and length
pub recoded_record_lem : (types : List (List ℕ)) (last at : ℕ) (r os : List ℕ) → (g : GoodRow (get_or types (get_or r 1 0) [])) → length r ≡ 20 → OneEncoded types last r os
    → SameKinds g.codes (drop 4 r)
    → recoded_record (get_or types (get_or r 1 0) []) r at ≡ at ∷ get_or r 1 0 ∷ length_of (get_or types (get_or r 1 0) []) ∷ get_or r 3 0 ∷ drop 4 r
recoded_record_lem types last at r os g h o k =
    let p : recoded_pairs (get_or types (get_or r 1 0) []) (drop 4 r) ≡ drop 4 r =
    rw g.is_row (pairs_kept g.types 8 (8 - length g.codes) (drop 4 r) (omega (arith, g.few)) (omega (arith, length-drop 4 r)) (shape_pairs types last r os o g) k) in
    rw p
