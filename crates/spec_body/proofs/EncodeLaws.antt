-- Laws of encoding, case by case. Assumes nothing.
use mathlib.Core.Path.{◌≡◌, refl, ap, sym, ◌∙◌}
use mathlib.Core.Bool.{true, false}
use mathlib.Core.List.{List, [], ◌∷◌, ◌++◌}
use Prim.Native.Nat.{ℕ, zero, suc, ◌+◌, ◌-◌, ◌*◌, ◌/◌, ◌≤◌, ◌<◌}
use native.Mathlib.Omega.{arith}
use lib.ListN.{length, take, drop, get_or, replicate, length-append, length-drop}
use lib.Seq.{drop-drop, take_at, drop_at}
use borrow.Author.Tests.{eq-eqb, ne_eqb, lt-ltb, le-ltb}
use Rattle.lists.specs.Choice.{both}
use Rattle.lists.proofs.Tests.{by_test, by_leb, by_eqb, both_left, both_right}
use Rattle.spec_numbers.specs.LittleEndian.{le_bytes}
use Rattle.spec_body.specs.Encode.{Fitted}
use Rattle.spec_body.specs.Encode.Fitted.{fits, no_fit}
use Rattle.spec_sheet.specs.Types.{width_of}
use Rattle.spec_sheet.specs.Row.{count_of}
use Rattle.spec_body.specs.Record.{record_words}
use Rattle.spec_body.specs.Encode.{good_pair, good_pairs, good_shape, encode_operand, Operands, prepend_bytes, operand_bytes, encode_operands, Encoded, append_to, with_operands, encode_record, encode_from, encode_records}
use Rattle.spec_body.specs.Encode.Operands.{bytes, misfit}
use Rattle.spec_body.specs.Encode.Encoded.{encoded, not_encoded}
use Rattle.answers.specs.declared.refusal.Refusal.TheVariants.{Beyond, OperandCount, BadRecord}
use Rattle.spec_body.proofs.OperandLaws.{no_zero}

-- a pair that is used, and one that is not
module _ (n : ℕ) (words : List ℕ) where
  pub pairs_used : (count : ℕ) → good_pairs (suc n) (suc count) words ≡ both (good_pair (get_or words 0 0) (get_or words 1 0)) (good_pairs n count (drop 2 words))
  unfolding good_pairs
  pairs_used count =
      let e : suc count - 1 ≡ count = omega arith in
      rw (no_zero (suc count) (omega arith), e)

  pub used_pair : (count : ℕ) → good_pairs (suc n) (suc count) words ≡ true → good_pair (get_or words 0 0) (get_or words 1 0) ≡ true
  used_pair count g = both_left _ _ (sym (pairs_used count) ∙ g)

  pub pairs_behind : (count : ℕ) → good_pairs (suc n) (suc count) words ≡ true → good_pairs n count (drop 2 words) ≡ true
  pairs_behind count g = both_right (good_pair (get_or words 0 0) (get_or words 1 0)) _ (sym (pairs_used count) ∙ g)

-- the operands of a row: no more, one that fits, one that doesn't
module _ (cs words : List ℕ) (n : ℕ) where
  pub operands_end : encode_operands (0 ∷ cs) words n ≡ bytes []
  unfolding encode_operands
  operands_end = refl

  pub operands_more : (c v : ℕ) → 0 < c → encode_operand c (get_or words 0 0) (get_or words 1 0) ≡ fits v
      → encode_operands (c ∷ cs) words n ≡ prepend_bytes (le_bytes (width_of c) v) (encode_operands cs (drop 2 words) (n + 1))
  unfolding encode_operands operand_bytes
  operands_more c v h e = rw (encode_operands, no_zero c h, e)

  pub operands_misfit : (c : ℕ) → 0 < c → encode_operand c (get_or words 0 0) (get_or words 1 0) ≡ no_fit → encode_operands (c ∷ cs) words n ≡ misfit n
  unfolding encode_operands operand_bytes
  operands_misfit c h e = rw (encode_operands, no_zero c h, e)

pub operands_none : (n : ℕ) (words : List ℕ) (k : ℕ) → encode_operands (replicate n 0) words k ≡ bytes []
unfolding encode_operands
operands_none zero words k = refl
operands_none (suc n) words k = refl

-- what operands that are encoded are made of
prepended_bytes : {P : Type 0} (b : List ℕ) (o : Operands) (os : List ℕ) → prepend_bytes b o ≡ bytes os → ((ms : List ℕ) → o ≡ bytes ms → b ++ ms ≡ os → P) → P
unfolding prepend_bytes
prepended_bytes b (bytes ms) os e then = then ms refl (cc e)
prepended_bytes b (misfit n) os e then = absurd (let z : ◌≡◌ {A = ℕ} 0 1 = cc e in omega arith)

pub operand_then : {P : Type 0} (cs words : List ℕ) (k c : ℕ) (os : List ℕ) → 0 < c → encode_operands (c ∷ cs) words k ≡ bytes os
    → ((v : ℕ) (ms : List ℕ) → encode_operand c (get_or words 0 0) (get_or words 1 0) ≡ fits v → encode_operands cs (drop 2 words) (k + 1) ≡ bytes ms → le_bytes (width_of c) v ++ ms ≡ os → P)
    → P
operand_then {P} cs words k c os h e then = go (encode_operand c (get_or words 0 0) (get_or words 1 0)) refl
  where
    go : (p : Fitted) → encode_operand c (get_or words 0 0) (get_or words 1 0) ≡ p → P
    go (fits v) w = prepended_bytes (le_bytes (width_of c) v) _ os (sym (operands_more cs words k c v h w) ∙ e) (λ ms x y. then v ms w x y)
    go no_fit w = absurd (let z : ◌≡◌ {A = ℕ} 0 1 = cc (sym (operands_misfit cs words k c h w) ∙ e) in omega arith)

-- one record: its shape is bad, its opcode is beyond the largest, its count is wrong, or it comes down to its operands
module _ (types : List (List ℕ)) (last i : ℕ) (r : List ℕ) (rest : Encoded) where
  pub record_bad : good_shape r ≡ false → encode_record types last i r rest ≡ not_encoded (BadRecord i)
  unfolding encode_record
  record_bad e = rw e

  module _ (g : good_shape r ≡ true) where
    pub record_beyond : last < get_or r 1 0 → encode_record types last i r rest ≡ not_encoded (Beyond i)
    unfolding encode_record
    record_beyond h = rw (g, lt-ltb last (get_or r 1 0) h)

    module _ (h : get_or r 1 0 ≤ last) where
      pub record_miscounted : (get_or r 3 0 ≡ count_of (get_or types (get_or r 1 0) []) → ⊥) → encode_record types last i r rest ≡ not_encoded (OperandCount i)
      unfolding encode_record
      record_miscounted e = rw (g, le-ltb last (get_or r 1 0) h, ne_eqb _ _ e)

      pub record_counted : get_or r 3 0 ≡ count_of (get_or types (get_or r 1 0) [])
          → encode_record types last i r rest ≡ with_operands (get_or r 1 0) i (encode_operands (get_or types (get_or r 1 0) []) (drop 4 r) 1) rest
      unfolding encode_record
      record_counted e = rw (g, le-ltb last (get_or r 1 0) h, eq-eqb (get_or r 3 0) (count_of (get_or types (get_or r 1 0) [])) e)

-- the records from i on: none, one that is cut, one that is whole
module _ (types : List (List ℕ)) (last : ℕ) (words : List ℕ) where
  pub from_end : (f i : ℕ) → length words ≤ 20 * i → encode_from f types last words i ≡ encoded []
  unfolding encode_from
  from_end zero i h = refl
  from_end (suc f) i h =
      let e : length (drop (20 * i) words) ≡ 0 = simp length-drop (omega arith) in
      rw (eq-eqb _ _ e)

  pub from_cut : (f i : ℕ) → 20 * i < length words → length words < 20 * i + 20 → encode_from (suc f) types last words i ≡ not_encoded (BadRecord i)
  unfolding encode_from
  from_cut f i h l =
      let e : length (drop (20 * i) words) ≡ 0 → ⊥ = λ q. omega (arith, length-drop (20 * i) words) in
      let k : length (drop (20 * i) words) < 20 = simp length-drop (omega arith) in
      rw (ne_eqb _ _ e, lt-ltb _ _ k)

  pub from_more : (f i : ℕ) → 20 * i + 20 ≤ length words
      → encode_from (suc f) types last words i ≡ encode_record types last i (take 20 (drop (20 * i) words)) (encode_from f types last words (i + 1))
  unfolding encode_from
  from_more f i h =
      let e : length (drop (20 * i) words) ≡ 0 → ⊥ = λ q. omega (arith, length-drop (20 * i) words) in
      let k : 20 ≤ length (drop (20 * i) words) = simp length-drop (omega arith) in
      rw (ne_eqb _ _ e, le-ltb _ _ k)

-- a record that is encoded, and the bytes of its operands
pub record OneEncoded (types : List (List ℕ)) (last : ℕ) (r os : List ℕ) : Type 0 where
  pub shape : good_shape r ≡ true
  pub known : get_or r 1 0 ≤ last
  pub counted : get_or r 3 0 ≡ count_of (get_or types (get_or r 1 0) [])
  pub operands : encode_operands (get_or types (get_or r 1 0) []) (drop 4 r) 1 ≡ bytes os

-- records that are encoded, and their bytes
pub data Encoding (types : List (List ℕ)) (last : ℕ) : List ℕ → List ℕ → Type 0 where
  no_record : {words : List ℕ} → length words ≡ 0 → Encoding types last words []
  a_record : {words os bs : List ℕ} → 20 ≤ length words → OneEncoded types last (take 20 words) os → Encoding types last (drop 20 words) bs
      → Encoding types last words (get_or (take 20 words) 1 0 ∷ os ++ bs)

-- one record in front of others
pub one_more : (types : List (List ℕ)) (last : ℕ) {r words os bs : List ℕ} → length r ≡ 20 → OneEncoded types last r os → Encoding types last words bs
    → Encoding types last (r ++ words) (get_or r 1 0 ∷ os ++ bs)
one_more types last {r} {words} {os} {bs} h o d =
    let t : take 20 (r ++ words) ≡ r = take_at r words 20 h in
    let l : 20 ≤ length (r ++ words) = omega (arith, length-append r words) in
    let p : OneEncoded types last (take 20 (r ++ words)) os = rw t o in
    let q : Encoding types last (drop 20 (r ++ words)) bs = rw (drop_at r words 20 h) d in
    let e : Encoding types last (r ++ words) (get_or (take 20 (r ++ words)) 1 0 ∷ os ++ bs) = a_record l p q in
    rw t at e

-- what was done with the rest
pub data Appended (b : List ℕ) (rest : Encoded) (bs : List ℕ) : Type 0 where
  behind : (ms : List ℕ) → rest ≡ encoded ms → b ++ ms ≡ bs → Appended b rest bs

appended : (b : List ℕ) (rest : Encoded) (bs : List ℕ) → append_to b rest ≡ encoded bs → Appended b rest bs
unfolding append_to
appended b (encoded ms) bs e = behind ms refl (cc e)
appended b (not_encoded x) bs e = absurd (let z : ◌≡◌ {A = ℕ} 0 1 = cc e in omega arith)

pub data Operated (opcode : ℕ) (o : Operands) (rest : Encoded) (bs : List ℕ) : Type 0 where
  operated : (os : List ℕ) → o ≡ bytes os → Appended (opcode ∷ os) rest bs → Operated opcode o rest bs

with_operands_lem : (opcode i : ℕ) (o : Operands) (rest : Encoded) (bs : List ℕ) → with_operands opcode i o rest ≡ encoded bs → Operated opcode o rest bs
unfolding with_operands
with_operands_lem opcode i (bytes os) rest bs e = operated os refl (appended (opcode ∷ os) rest bs e)
with_operands_lem opcode i (misfit n) rest bs e = absurd (let z : ◌≡◌ {A = ℕ} 0 1 = cc e in omega arith)

module _ (types : List (List ℕ)) (last i : ℕ) (r : List ℕ) (rest : Encoded) where
  -- a record that is encoded comes before the bytes of the rest
  pub one_encoded : (os bs : List ℕ) → OneEncoded types last r os → rest ≡ encoded bs → encode_record types last i r rest ≡ encoded (get_or r 1 0 ∷ os ++ bs)
  unfolding with_operands append_to
  one_encoded os bs o e = record_counted types last i r rest o.shape o.known o.counted ∙ rw (o.operands, e)

  -- and nothing else is
  pub encoded_one : {P : Type 0} (bs : List ℕ) → encode_record types last i r rest ≡ encoded bs
      → ((os ms : List ℕ) → OneEncoded types last r os → rest ≡ encoded ms → get_or r 1 0 ∷ os ++ ms ≡ bs → P) → P
  encoded_one {P} bs e then =
      by_test (good_shape r)
      (λ g. by_leb (get_or r 1 0) last
      (λ h. by_eqb (get_or r 3 0) (count_of (get_or types (get_or r 1 0) []))
      (λ c. go g h c (with_operands_lem _ i _ rest bs (sym (record_counted types last i r rest g h c) ∙ e)))
      (λ c. absurd (let z : ◌≡◌ {A = ℕ} 0 1 = cc (sym (record_miscounted types last i r rest g h c) ∙ e) in omega arith)))
      (λ h. absurd (let z : ◌≡◌ {A = ℕ} 0 1 = cc (sym (record_beyond types last i r rest g h) ∙ e) in omega arith)))
      (λ g. absurd (let z : ◌≡◌ {A = ℕ} 0 1 = cc (sym (record_bad types last i r rest g) ∙ e) in omega arith))
    where
      go : good_shape r ≡ true → get_or r 1 0 ≤ last → get_or r 3 0 ≡ count_of (get_or types (get_or r 1 0) [])
          → Operated (get_or r 1 0) (encode_operands (get_or types (get_or r 1 0) []) (drop 4 r) 1) rest bs → P
      go g h c (operated os o (behind ms p q)) = then os ms (record { shape = g; known = h; counted = c; operands = o }) p q

module _ (types : List (List ℕ)) (last : ℕ) (words : List ℕ) where
  next_words : (i : ℕ) → drop 20 (drop (20 * i) words) ≡ drop (20 * (i + 1)) words
  next_words i = let e : 20 * i + 20 ≡ 20 * (i + 1) = omega arith in drop-drop 20 (20 * i) words ∙ rw e

  encode_from_lem : (f i : ℕ) {ws bs : List ℕ} → ws ≡ drop (20 * i) words → length words ≤ 20 * (i + f) → Encoding types last ws bs → encode_from f types last words i ≡ encoded bs
  encode_from_lem f i q h (no_record e) = from_end types last words f i (omega (arith, ap length q, length-drop (20 * i) words))
  encode_from_lem zero i q h (a_record l o d) = absurd (omega (arith, ap length q, length-drop (20 * i) words))
  encode_from_lem (suc f) i {ws} q h (a_record l o d) =
      from_more types last words f i (omega (arith, ap length q, length-drop (20 * i) words))
      ∙ rw (sym q) (one_encoded types last i (take 20 ws) _ _ _ o (encode_from_lem f (i + 1) (ap (drop 20) q ∙ next_words i) (omega arith) d))

  stop_from : (f i : ℕ) (bs : List ℕ) → encode_from f types last words i ≡ encoded bs → length words ≤ 20 * i → Encoding types last (drop (20 * i) words) bs
  stop_from f i bs e h =
      let q : bs ≡ [] = cc (sym (from_end types last words f i h) ∙ e) in
      let l : length (drop (20 * i) words) ≡ 0 = simp length-drop (omega arith) in
      rw q (no_record l)

  encoded_from : (f i : ℕ) (bs : List ℕ) → length words ≤ 20 * (i + f) → encode_from f types last words i ≡ encoded bs → Encoding types last (drop (20 * i) words) bs
  encoded_from zero i bs h e = stop_from zero i bs e (omega arith)
  encoded_from (suc f) i bs h e =
      by_leb (length words) (20 * i) (stop_from (suc f) i bs e) λ g.
      by_leb (20 * i + 20) (length words)
      (λ l. let k : 20 ≤ length (drop (20 * i) words) = simp length-drop (omega arith) in
      encoded_one types last i (take 20 (drop (20 * i) words)) _ bs (sym (from_more types last words f i l) ∙ e)
      (λ os ms o p q. let d : Encoding types last (drop 20 (drop (20 * i) words)) ms = rw (next_words i) (encoded_from f (i + 1) ms (omega arith) p) in
      rw (sym q) (a_record k o d)))
      (λ l. absurd (let z : ◌≡◌ {A = ℕ} 0 1 = cc (sym (from_cut types last words f i g l) ∙ e) in omega arith))

  -- all records of a slice
  pub records_encoded : {bs : List ℕ} → Encoding types last words bs → encode_records types last words ≡ encoded bs
  records_encoded d = encode_from_lem (length words / record_words + 1) 0 refl (omega arith) d

  pub encoded_records : (bs : List ℕ) → encode_records types last words ≡ encoded bs → Encoding types last words bs
  encoded_records bs e = encoded_from (length words / record_words + 1) 0 bs (omega arith) e
