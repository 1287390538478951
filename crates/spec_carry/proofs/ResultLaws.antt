-- The result of carrying is decoded under the second sheet to as many instructions. Assumes nothing.
use mathlib.Core.Path.{◌≡◌, refl, ap, sym, ◌∙◌}
use mathlib.Core.List.{List, [], ◌∷◌, ◌++◌, append_assoc}
use Prim.Native.Nat.{ℕ, zero, suc, ◌+◌, ◌≤◌, ◌<◌}
use native.Mathlib.Nat.{add-zero}
use native.Mathlib.Omega.{arith}
use lib.ListN.{length, take, drop, get_or, length-append, length-drop}
use lib.Seq.{drop-drop, take_at, drop_at, get_or-drop}
use Rattle.lists.specs.Scan.{Bytes, part}
use Rattle.spec_numbers.specs.LittleEndian.{le, le_bytes}
use Rattle.spec_numbers.proofs.ByteLaws.{length_le_bytes, le_bytes_bytes}
use Rattle.spec_sheet.specs.Types.{width_of, kind_of}
use Rattle.spec_sheet.specs.Row.{sum_by, total_width, length_of, count_of}
use Rattle.spec_body.specs.Record.{pairs, record_of, offset_of, pairs_of}
use Rattle.spec_body.specs.Decode.{decode_body, row_at}
use Rattle.spec_body.specs.Decode.Decoded.{decoded}
use Rattle.spec_body.proofs.DecodeLaws.{Decoding, body_decoded}
use Rattle.spec_body.proofs.DecodeLaws.Decoding.{ended, more}
use Rattle.spec_body.specs.Starts.{places_of}
use Rattle.spec_carry.specs.Passes.{Carrying, moved_from, new_bits, new_bytes, new_opcode, new_operands, new_row, old_row}

-- the pairs and records that the result is decoded to
unfoldable pub new_pairs : Carrying → ℕ → ℕ → List ℕ → List ℕ → List ℕ → List ℕ
new_pairs x at new cs [] ps = []
new_pairs x at new cs (d ∷ ds) ps =
    kind_of d ∷ le (le_bytes (width_of d) (new_bits x at new (get_or cs 0 0) d (get_or ps 1 0))) ∷ new_pairs x at new (drop 1 cs) ds (drop 2 ps)

abbrev pub new_record : Carrying → ℕ → ℕ → List ℕ → List ℕ
new_record x at i r =
    let row = new_row x.from x.into r in
    at ∷ new_opcode x.from x.into r ∷ length_of row ∷ count_of row ∷ new_pairs x (offset_of r) (get_or x.moved i 0) (old_row x.from r) row (pairs_of r)

unfoldable pub new_records : Carrying → ℕ → ℕ → List (List ℕ) → List (List ℕ)
new_records x at i [] = []
new_records x at i (r ∷ rs) = new_record x at i r ∷ new_records x (at + length_of (new_row x.from x.into r)) (suc i) rs

pub new_count : (x : Carrying) (at i : ℕ) (rs : List (List ℕ)) → length (new_records x at i rs) ≡ length rs
unfolding new_records
new_count x at i [] = refl
new_count x at i (r ∷ rs) = ap suc (new_count x (at + length_of (new_row x.from x.into r)) (suc i) rs)

-- every instruction's name is an opcode of the second sheet
pub data Known (x : Carrying) (last : ℕ) : List (List ℕ) → Type 0 where
  none : Known x last []
  one : {r : List ℕ} {rs : List (List ℕ)} → new_opcode x.from x.into r ≤ last → Known x last rs → Known x last (r ∷ rs)

module _ (x : Carrying) where
  pub operands_length : (at new : ℕ) (cs ds ps : List ℕ) → length (new_operands x at new cs ds ps) ≡ total_width ds
  unfolding new_operands sum_by
  operands_length at new cs [] ps = refl
  operands_length at new cs (d ∷ ds) ps =
      let v = new_bits x at new (get_or cs 0 0) d (get_or ps 1 0) in
      omega (arith, length-append (le_bytes (width_of d) v) (new_operands x at new (drop 1 cs) ds (drop 2 ps)), length_le_bytes (width_of d) v, operands_length at new (drop 1 cs) ds (drop 2 ps))

  module _ (s : List ℕ) where
    -- operands that stand in a body are read as their pairs
    operands_read : (at new : ℕ) (cs ds ps : List ℕ) (p : ℕ) (post : List ℕ) → drop p s ≡ new_operands x at new cs ds ps ++ post → pairs ds s p ≡ new_pairs x at new cs ds ps
    unfolding new_operands new_pairs pairs
    operands_read at new cs [] ps p post e = refl
    operands_read at new cs (d ∷ ds) ps p post e =
        let v = new_bits x at new (get_or cs 0 0) d (get_or ps 1 0) in
        let os = new_operands x at new (drop 1 cs) ds (drop 2 ps) in
        let q : drop p s ≡ le_bytes (width_of d) v ++ (os ++ post) = e ∙ append_assoc (le_bytes (width_of d) v) os post in
        let f : part s p (width_of d) ≡ le_bytes (width_of d) v = ap (take (width_of d)) q ∙ take_at (le_bytes (width_of d) v) (os ++ post) (width_of d) (length_le_bytes (width_of d) v) in
        let g : drop (p + width_of d) s ≡ os ++ post =
        sym (drop-drop (width_of d) p s) ∙ (ap (drop (width_of d)) q ∙ drop_at (le_bytes (width_of d) v) (os ++ post) (width_of d) (length_le_bytes (width_of d) v)) in
        rw (f, operands_read at new (drop 1 cs) ds (drop 2 ps) (p + width_of d) post g)

    -- an instruction that was written at `at` is read from there
    module _ (last at i : ℕ) (r post : List ℕ) (k : new_opcode x.from x.into r ≤ last)
        (e : drop at s ≡ new_opcode x.from x.into r ∷ new_operands x (offset_of r) (get_or x.moved i 0) (old_row x.from r) (new_row x.from x.into r) (pairs_of r) ++ post) where
      abbrev row : List ℕ
      row = new_row x.from x.into r

      abbrev os : List ℕ
      os = new_operands x (offset_of r) (get_or x.moved i 0) (old_row x.from r) row (pairs_of r)

      opcode_read : get_or s at 0 ≡ new_opcode x.from x.into r
      opcode_read = ap (λ (j : ℕ). get_or s j 0) (sym (add-zero at)) ∙ (sym (get_or-drop at s 0 0) ∙ ap (λ (l : List ℕ). get_or l 0 0) e)

      behind_opcode : drop (at + 1) s ≡ os ++ post
      behind_opcode = sym (drop-drop 1 at s) ∙ ap (drop 1) e

      row_length : length os ≡ total_width row
      row_length = operands_length (offset_of r) (get_or x.moved i 0) (old_row x.from r) row (pairs_of r)

      record_inside : at + length_of row ≤ length s
      record_inside = omega (arith, ap length e, length-drop at s, length-append os post, row_length)

      behind_record : drop (at + length_of row) s ≡ post
      behind_record =
          let q : at + length_of row ≡ (at + 1) + length os = omega (arith, row_length) in
          rw q (sym (drop-drop (length os) (at + 1) s) ∙ (ap (drop (length os)) behind_opcode ∙ drop_at os post (length os) refl))

      record_read : record_of (row_at x.into.types s at) s at ≡ new_record x at i r
      record_read =
          let p : pairs row s (at + 1) ≡ new_pairs x (offset_of r) (get_or x.moved i 0) (old_row x.from r) row (pairs_of r) =
          operands_read (offset_of r) (get_or x.moved i 0) (old_row x.from r) row (pairs_of r) (at + 1) post behind_opcode in
          rw (opcode_read, p)

      record_decoded : {rs : List (List ℕ)} → Decoding x.into.types last s (at + length_of row) rs → Decoding x.into.types last s at (new_record x at i r ∷ rs)
      record_decoded {rs} d =
          let w : row_at x.into.types s at ≡ row = ap (λ (j : ℕ). get_or x.into.types j []) opcode_read in
          let n : at + length_of (row_at x.into.types s at) ≤ length s = rw w record_inside in
          let h : at < length s = omega arith in
          let l : get_or s at 0 ≤ last = rw opcode_read k in
          let z : Decoding x.into.types last s (at + length_of (row_at x.into.types s at)) rs = rw w d in
          let y : Decoding x.into.types last s at (record_of (row_at x.into.types s at) s at ∷ rs) = more h l n z in
          rw record_read at y

    -- instructions that stand in a body are decoded to their records
    decoding_new : (last : ℕ) {rs : List (List ℕ)} → Known x last rs → (i at : ℕ) → drop at s ≡ new_bytes x i rs → Decoding x.into.types last s at (new_records x at i rs)
    unfolding new_bytes new_records
    decoding_new last none i at e =
        let h : length s ≤ at = omega (arith, ap length e, length-drop at s) in
        ended h
    decoding_new last (one {r} {rs} k ks) i at e =
        record_decoded last at i r (new_bytes x (suc i) rs) k e
        (decoding_new last ks (suc i) (at + length_of (new_row x.from x.into r)) (behind_record last at i r (new_bytes x (suc i) rs) k e))

  -- the result's records
  pub result_decoded : (last : ℕ) (rs : List (List ℕ)) → Known x last rs → decode_body x.into.types last (new_bytes x 0 rs) ≡ decoded (new_records x 0 0 rs)
  result_decoded last rs k = body_decoded x.into.types last (new_bytes x 0 rs) (decoding_new (new_bytes x 0 rs) last k 0 0 refl)

-- the places of the result are the moved ones
module _ (x : Carrying) where
  pub result_places : (at i : ℕ) (rs : List (List ℕ)) → places_of (new_records x at i rs) (at + length (new_bytes x i rs)) ≡ moved_from x.from x.into at rs
  unfolding new_records new_bytes moved_from places_of
  result_places at i [] = ap (λ (n : ℕ). n ∷ []) (omega arith)
  result_places at i (r ∷ rs) =
      let row = new_row x.from x.into r in
      let os = new_operands x (offset_of r) (get_or x.moved i 0) (old_row x.from r) row (pairs_of r) in
      let l : length os ≡ total_width row = operands_length x (offset_of r) (get_or x.moved i 0) (old_row x.from r) row (pairs_of r) in
      let q : at + length (new_bytes x i (r ∷ rs)) ≡ (at + length_of row) + length (new_bytes x (suc i) rs) = omega (arith, length-append os (new_bytes x (suc i) rs), l) in
      ap (λ (l : List ℕ). at ∷ l) (rw q (result_places (at + length_of row) (suc i) rs))

-- the result is made of bytes
bytes_append : (a b : List ℕ) → Bytes a → Bytes b → Bytes (a ++ b)
bytes_append [] b h g i = g i
bytes_append (y ∷ a) b h g zero = h 0
bytes_append (y ∷ a) b h g (suc i) = bytes_append a b (λ j. h (suc j)) g i

bytes_operands : (x : Carrying) (at new : ℕ) (cs ds ps : List ℕ) → Bytes (new_operands x at new cs ds ps)
unfolding new_operands
bytes_operands x at to cs [] ps = λ i. omega arith
bytes_operands x at to cs (d ∷ ds) ps =
    let v = new_bits x at to (get_or cs 0 0) d (get_or ps 1 0) in
    bytes_append (le_bytes (width_of d) v) (new_operands x at to (drop 1 cs) ds (drop 2 ps)) (le_bytes_bytes (width_of d) v) (bytes_operands x at to (drop 1 cs) ds (drop 2 ps))

bytes_cons : (y : ℕ) (a : List ℕ) → y < 256 → Bytes a → Bytes (y ∷ a)
bytes_cons y a h g zero = h
bytes_cons y a h g (suc i) = g i

pub bytes_new : (x : Carrying) (last : ℕ) → last ≤ 255 → (i : ℕ) {rs : List (List ℕ)} → Known x last rs → Bytes (new_bytes x i rs)
unfolding new_bytes
bytes_new x last h i Known.none = λ j. omega arith
bytes_new x last h i (Known.one {r} {rs} k ks) =
    let os = new_operands x (offset_of r) (get_or x.moved i 0) (old_row x.from r) (new_row x.from x.into r) (pairs_of r) in
    bytes_cons (new_opcode x.from x.into r) (os ++ new_bytes x (suc i) rs) (omega arith)
    (bytes_append os (new_bytes x (suc i) rs) (bytes_operands x (offset_of r) (get_or x.moved i 0) (old_row x.from r) (new_row x.from x.into r) (pairs_of r)) (bytes_new x last h (suc i) ks))
