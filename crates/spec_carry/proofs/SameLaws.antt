-- Bodies that mean the same under one sheet and table are the same, where their string ids are the first of their texts. Assumes
-- nothing.
use mathlib.Core.Path.{◌≡◌, refl, ap, sym, ◌∙◌}
use mathlib.Core.Bool.{true, false}
use mathlib.Core.List.{List, [], ◌∷◌, ◌++◌}
use Prim.Native.Nat.{ℕ, zero, suc, ◌+◌, ◌-◌, ◌*◌, ◌^◌, ◌≤◌, ◌<◌}
use native.Mathlib.Omega.{arith}
use lib.Dec.{eqb, ltb}
use lib.ListN.{length, get_or, replicate}
use borrow.Author.Tests.{eqb-true, ne_eqb, lt-ltb, le-ltb, ltb-true}
use Rattle.lists.specs.Found.{Found}
use Rattle.lists.specs.Found.Found.{found, missing}
use Rattle.lists.specs.Choice.{pick, both}
use Rattle.lists.specs.Scan.{Bytes, part}
use Rattle.lists.specs.Text as characters
use Rattle.lists.proofs.Scans.{same_refl}
use Rattle.lists.proofs.Tests.{by_leb, by_eqb, both_left, both_right, true_not_false}
use Rattle.spec_numbers.specs.LittleEndian.{le}
use Rattle.spec_sheet.specs.Types.{width_of, family_of, kind_of}
use Rattle.spec_sheet.specs.Row.{length_of, count_of}
use Rattle.spec_sheet.specs.Sheet.{find_name}
use Rattle.spec_sheet.proofs.OpLaws.{TypeCodes}
use Rattle.spec_sheet.proofs.TypeLaws.{by_address}
use Rattle.spec_strings.specs.Table.{lookup}
use Rattle.spec_strings.proofs.TableLaws.{lookup_own}
use Rattle.spec_inputs.specs.Context.{Context, name_of, has_text, text_at}
use Rattle.spec_inputs.proofs.NameLaws.{gap_name}
use Rattle.spec_body.specs.Record.{opcode_of, pairs, record_of, join}
use Rattle.spec_body.specs.Starts.{places_of}
use Rattle.spec_body.specs.Decode.{decode_body, row_at}
use Rattle.spec_body.specs.Decode.Decoded.{decoded}
use Rattle.spec_body.specs.Encode.{encode_records}
use Rattle.spec_body.specs.Encode.Encoded.{encoded}
use Rattle.spec_body.proofs.DecodeLaws.{Decoding, body_stands}
use Rattle.spec_body.proofs.DecodeLaws.Decoding.{ended, more}
use Rattle.spec_body.proofs.ReencodeLaws.{part_below, reencoded}
use Rattle.spec_body.proofs.RowLaws.{GoodRow, GoodRows}
use Rattle.spec_carry.specs.Meaning.{reaches, target_in, Value, target_value, Operand, value_of, operands_of, Meaning, meaning_of, meanings_from, meanings, is_some, all_some, all_mean}
use Rattle.spec_carry.specs.Meaning.Value.{number, text}
use Rattle.spec_carry.specs.Passes.{or_zero}
use Rattle.spec_carry.specs.FirstIds.{is_first_id, first_operands, first_ids}
use Rattle.spec_carry.proofs.PlaceLaws.{first_passes}
use Rattle.spec_carry.proofs.MeaningLaws.{Sound}

-- distances of w bytes to one place are the same; h is half the numbers of w bytes
one_distance : (w h at p a b : ℕ) → 2 ^ (8 * w - 1) ≡ h → 2 ^ (8 * w) ≡ h + h → a < h + h → b < h + h → reaches w at a p ≡ true → reaches w at b p ≡ true → a ≡ b
unfolding reaches
one_distance w h at p a b e f la lb ra rb =
    let x : eqb (at + a) (p + pick (ltb a h) 0 (h + h)) ≡ true = rw (e, f) at ra in
    let y : eqb (at + b) (p + pick (ltb b h) 0 (h + h)) ≡ true = rw (e, f) at rb in
    let x' : at + a ≡ p + pick (ltb a h) 0 (h + h) = eqb-true _ _ x in
    let y' : at + b ≡ p + pick (ltb b h) 0 (h + h) = eqb-true _ _ y in
    by_leb h a
    (λ u. let x₁ : at + a ≡ p + (h + h) = rw (le-ltb a h u) at x' in
    by_leb h b
    (λ v. let y₁ : at + b ≡ p + (h + h) = rw (le-ltb b h v) at y' in omega arith)
    (λ v. let y₁ : at + b ≡ p + 0 = rw (lt-ltb b h v) at y' in omega arith))
    (λ u. let x₁ : at + a ≡ p + 0 = rw (lt-ltb a h u) at x' in
    by_leb h b
    (λ v. let y₁ : at + b ≡ p + (h + h) = rw (le-ltb b h v) at y' in omega arith)
    (λ v. let y₁ : at + b ≡ p + 0 = rw (lt-ltb b h v) at y' in omega arith))

-- values of one type that are the same and stand for something have the same bits
module _ (e : Context) (places : List ℕ) (at c : ℕ) (a b : ℕ) where
  abbrev left : Value
  left = value_of e places at c a

  abbrev right : Value
  right = value_of e places at c b

  -- the first id of a text is found by it
  own_id : (id : ℕ) → is_first_id e id ≡ true → lookup (text_at e id) e.bytes e.ends ≡ found id
  unfolding is_first_id or_zero
  own_id id f =
      let l = ltb-true id (length e.ends) (both_left (has_text e id) _ f) in
      let o = lookup_own e.bytes e.ends id l in
      let q : eqb (or_zero (lookup (text_at e id) e.bytes e.ends)) id ≡ true = both_right (has_text e id) _ f in
      let w : eqb o.at id ≡ true = rw o.answer at q in
      o.answer ∙ ap found (eqb-true o.at id w)

  same_string : family_of c ≡ 3 → left ≡ right → is_first_id e a ≡ true → is_first_id e b ≡ true → a ≡ b
  unfolding value_of is_first_id
  same_string f q i j =
      let ha : has_text e a ≡ true = both_left (has_text e a) _ i in
      let hb : has_text e b ≡ true = both_left (has_text e b) _ j in
      let v : text (text_at e a) ≡ text (text_at e b) = rw (f, ha, hb) at q in
      let t : text_at e a ≡ text_at e b = cc v in
      let w : found a ≡ found b = sym (own_id a i) ∙ (ap (λ (s : List ℕ). lookup s e.bytes e.ends) t ∙ own_id b j) in
      cc w

  same_other : (family_of c ≡ 3 → ⊥) → (family_of c ≡ 4 → ⊥) → left ≡ right → a ≡ b
  unfolding value_of
  same_other n m q =
      let v : number a ≡ number b = rw (ne_eqb (family_of c) 3 n, ne_eqb (family_of c) 4 m) at q in
      cc v

  same_reach : family_of c ≡ 4 → (p : ℕ) → reaches (width_of c) at a p ≡ true → reaches (width_of c) at b p ≡ true → a < 256 ^ width_of c → b < 256 ^ width_of c → a ≡ b
  unfolding width_of
  same_reach f p =
      by_address (λ d. reaches (width_of d) at a p ≡ true → reaches (width_of d) at b p ≡ true → a < 256 ^ width_of d → b < 256 ^ width_of d → a ≡ b) c f
      (λ x y l m. one_distance 1 128 at p a b refl refl l m x y)
      (λ x y l m. one_distance 4 (2 ^ 31) at p a b refl refl l m x y)

  same_address : family_of c ≡ 4 → left ≡ right → is_some left ≡ true → a < 256 ^ width_of c → b < 256 ^ width_of c → a ≡ b
  unfolding value_of target_value is_some
  same_address f q s l m =
      let v : target_value (target_in places (width_of c) at a) ≡ target_value (target_in places (width_of c) at b) = rw f at q in
      let some : is_some (target_value (target_in places (width_of c) at a)) ≡ true = rw f at s in
      go (target_in places (width_of c) at a) (target_in places (width_of c) at b) refl refl v some
    where
      go : (x y : Found) → target_in places (width_of c) at a ≡ x → target_in places (width_of c) at b ≡ y → target_value x ≡ target_value y → is_some (target_value x) ≡ true → a ≡ b
      go (found j) (found k) x y q s =
          let e : j ≡ k = cc q in
          let x' : target_in places (width_of c) at a ≡ found k = rw e at x in
          same_reach f (get_or places (k - 0) 0) (first_passes (reaches (width_of c) at a) places 0 k x') (first_passes (reaches (width_of c) at b) places 0 k y) l m
      go (found j) missing x y q s = absurd (let z : ◌≡◌ {A = ℕ} 0 1 = cc q in omega arith)
      go missing y x' y' q s = true_not_false false s refl

  pub same_bits : left ≡ right → is_some left ≡ true → pick (eqb (family_of c) 3) (is_first_id e a) true ≡ true → pick (eqb (family_of c) 3) (is_first_id e b) true ≡ true
      → a < 256 ^ width_of c → b < 256 ^ width_of c → a ≡ b
  same_bits q s i j l m =
      by_eqb (family_of c) 3 (λ f. same_string f q (rw f at i) (rw f at j)) λ n.
      by_eqb (family_of c) 4 (λ f. same_address f q s l m) λ k.
      same_other n k q

-- so the pairs of a row are the same
module _ (e : Context) (places : List ℕ) (at : ℕ) (s t : List ℕ) (b : Bytes s) (b' : Bytes t) where
  zeros_same : (n p : ℕ) → pairs (replicate n 0) s p ≡ pairs (replicate n 0) t p
  unfolding pairs kind_of width_of le
  zeros_same zero p = refl
  zeros_same (suc n) p = ap (λ (l : List ℕ). 0 ∷ 0 ∷ l) (zeros_same n (p + 0))

  pairs_same : {cs : List ℕ} → TypeCodes cs → (n p : ℕ)
      → operands_of e places at (cs ++ replicate n 0) (pairs (cs ++ replicate n 0) s p) ≡ operands_of e places at (cs ++ replicate n 0) (pairs (cs ++ replicate n 0) t p)
      → all_some (operands_of e places at (cs ++ replicate n 0) (pairs (cs ++ replicate n 0) s p)) ≡ true
      → first_operands e (cs ++ replicate n 0) (pairs (cs ++ replicate n 0) s p) ≡ true
      → first_operands e (cs ++ replicate n 0) (pairs (cs ++ replicate n 0) t p) ≡ true
      → pairs (cs ++ replicate n 0) s p ≡ pairs (cs ++ replicate n 0) t p
  unfolding pairs operands_of all_some first_operands
  pairs_same TypeCodes.none n p q a f g = zeros_same n p
  pairs_same (TypeCodes.one {c} {cs} l k types) n p q a f g =
      let row = cs ++ replicate n 0 in
      let x = le (part s p (width_of c)) in
      let y = le (part t p (width_of c)) in
      let ps = pairs row s (p + width_of c) in
      let qs = pairs row t (p + width_of c) in
      let no : eqb c 0 ≡ false = ne_eqb c 0 (λ z. omega arith) in
      let os : record { family = family_of c; value = value_of e places at c x } ∷ operands_of e places at row ps ≡ record { family = family_of c; value = value_of e places at c y } ∷ operands_of e places at row qs = rw no at q in
      let head : ◌≡◌ {A = Operand} (record { family = family_of c; value = value_of e places at c x }) (record { family = family_of c; value = value_of e places at c y }) = cc os in
      let rest : operands_of e places at row ps ≡ operands_of e places at row qs = cc os in
      let some : both (is_some (value_of e places at c x)) (all_some (operands_of e places at row ps)) ≡ true = rw no at a in
      let bits : x ≡ y =
      same_bits e places at c x y (ap (λ (o : Operand). o.value) head) (both_left _ (all_some (operands_of e places at row ps)) some)
      (both_left _ (first_operands e row ps) f) (both_left _ (first_operands e row qs) g) (part_below s p (width_of c) b) (part_below t p (width_of c) b') in
      let behind : ps ≡ qs =
      pairs_same types n (p + width_of c) rest (both_right (is_some (value_of e places at c x)) _ some)
      (both_right (pick (eqb (family_of c) 3) (is_first_id e x) true) (first_operands e row ps) f)
      (both_right (pick (eqb (family_of c) 3) (is_first_id e y) true) (first_operands e row qs) g) in
      rw (bits, behind)

-- every opcode has a name
pub data Named (e : Context) : List (List ℕ) → Type 0 where
  none : Named e []
  one : {r : List ℕ} {rs : List (List ℕ)} → 0 < get_or (get_or e.infos (opcode_of r) []) 3 0 → Named e rs → Named e (r ∷ rs)

-- bodies under one sheet that was read: a name is found at its opcode again, and rows are codes and then zeros
module _ (e : Context) (last : ℕ) (sound : Sound e last) (rows : GoodRows e.types)
    (own : (k : ℕ) → 0 < get_or (get_or e.infos k []) 3 0 → find_name e.sheet (name_of e k) 0 e.infos ≡ found k)
  where
    -- opcodes of one name are one, where the name is no gap's
    opcode_same : (a b : ℕ) → name_of e a ≡ name_of e b → 0 < get_or (get_or e.infos b []) 3 0 → a ≡ b
    opcode_same a b q h =
        by_eqb (get_or (get_or e.infos a []) 3 0) 0
        (λ z. let gap : name_of e b ≡ characters.text "<invalid>" = sym q ∙ gap_name e a z in
        true_not_false _ (rw gap (same_refl (characters.text "<invalid>"))) (sound.not_invalid b h))
        (λ n. let w : found a ≡ found b = sym (own a (omega (arith, n))) ∙ (ap (λ (name : List ℕ). find_name e.sheet name 0 e.infos) q ∙ own b h) in cc w)

    module _ (s t : List ℕ) where
      -- the same names, the same places
      places_same : (p q : List ℕ) {at : ℕ} {rs ts : List (List ℕ)} → at ≤ length s → at ≤ length t → Decoding e.types last s at rs → Decoding e.types last t at ts → Named e ts
          → meanings_from e p rs ≡ meanings_from e q ts → places_of rs (length s) ≡ places_of ts (length t)
      unfolding meanings_from places_of
      places_same p q l m (ended h) (ended k) n z = let w : length s ≡ length t = omega arith in ap (λ (j : ℕ). j ∷ []) w
      places_same p q l m (ended h) (more g k j d) n z = absurd (let w : ◌≡◌ {A = ℕ} 0 1 = cc z in omega arith)
      places_same p q l m (more g k j d) (ended h) n z = absurd (let w : ◌≡◌ {A = ℕ} 0 1 = cc z in omega arith)
      places_same p q {at} l m (more {rs = rs} g k j d) (more {rs = ts} g' k' j' d') (Named.one h n) z =
          let first : ◌≡◌ {A = Meaning} (meaning_of e p (record_of (row_at e.types s at) s at)) (meaning_of e q (record_of (row_at e.types t at) t at)) = cc z in
          let o : get_or s at 0 ≡ get_or t at 0 = opcode_same (get_or s at 0) (get_or t at 0) (ap (λ (x : Meaning). x.name) first) h in
          let row : row_at e.types s at ≡ row_at e.types t at = ap (λ (x : ℕ). get_or e.types x []) o in
          let d'' : Decoding e.types last t (at + length_of (row_at e.types s at)) ts = rw row d' in
          let j'' : at + length_of (row_at e.types s at) ≤ length t = rw row j' in
          let rest : meanings_from e p rs ≡ meanings_from e q ts = cc z in
          ap (λ (x : List ℕ). at ∷ x) (places_same p q j j'' d d'' n rest)

      -- the same places and meanings, the same records
      records_same : Bytes s → Bytes t → (p : List ℕ) {at : ℕ} {rs ts : List (List ℕ)} → Decoding e.types last s at rs → Decoding e.types last t at ts → Named e ts
          → meanings_from e p rs ≡ meanings_from e p ts → all_mean (meanings_from e p rs) ≡ true → first_ids e rs ≡ true → first_ids e ts ≡ true → rs ≡ ts
      unfolding meanings_from all_mean first_ids
      records_same b b' p (ended h) (ended k) n z a f g = refl
      records_same b b' p (ended h) (more g k j d) n z a f i = absurd (let w : ◌≡◌ {A = ℕ} 0 1 = cc z in omega arith)
      records_same b b' p (more g k j d) (ended h) n z a f i = absurd (let w : ◌≡◌ {A = ℕ} 0 1 = cc z in omega arith)
      records_same b b' p {at} (more {rs = rs} g k j d) (more {rs = ts} g' k' j' d') (Named.one h n) z a f i =
          let row = row_at e.types s at in
          let ps = pairs row s (at + 1) in
          let first : ◌≡◌ {A = Meaning} (meaning_of e p (record_of row s at)) (meaning_of e p (record_of (row_at e.types t at) t at)) = cc z in
          let o : get_or s at 0 ≡ get_or t at 0 = opcode_same (get_or s at 0) (get_or t at 0) (ap (λ (x : Meaning). x.name) first) h in
          let same_row : row_at e.types t at ≡ row = ap (λ (x : ℕ). get_or e.types x []) (sym o) in
          let qs = pairs row t (at + 1) in
          let d'' : Decoding e.types last t (at + length_of row) ts = rw (sym same_row) d' in
          let rest : meanings_from e p rs ≡ meanings_from e p ts = cc z in
          let os : operands_of e p at row ps ≡ operands_of e p at row qs =
          ap (λ (x : Meaning). x.operands) first ∙ ap (λ (x : List ℕ). operands_of e p at x (pairs x t (at + 1))) same_row in
          let some : all_some (operands_of e p at row ps) ≡ true = both_left _ (all_mean (meanings_from e p rs)) a in
          let more-some : all_mean (meanings_from e p rs) ≡ true = both_right (all_some (operands_of e p at row ps)) _ a in
          let one : first_operands e row ps ≡ true = both_left _ (first_ids e rs) f in
          let more-one : first_ids e rs ≡ true = both_right (first_operands e row ps) _ f in
          let two' : first_operands e (row_at e.types t at) (pairs (row_at e.types t at) t (at + 1)) ≡ true = both_left _ (first_ids e ts) i in
          let two : first_operands e row qs ≡ true = ap (λ (x : List ℕ). first_operands e x (pairs x t (at + 1))) (sym same_row) ∙ two' in
          let more-two : first_ids e ts ≡ true = both_right (first_operands e (row_at e.types t at) (pairs (row_at e.types t at) t (at + 1))) _ i in
          let good : GoodRow row = rows (get_or s at 0) (omega (arith, sound.byte)) in
          let same-pairs : ps ≡ qs = row_pairs p at b b' row good os some one two in
          let r : record_of row s at ≡ record_of (row_at e.types t at) t at =
          ap (λ (x : List ℕ). at ∷ get_or s at 0 ∷ length_of row ∷ count_of row ∷ x) same-pairs
          ∙ ap (λ (x : ℕ). at ∷ x ∷ length_of (get_or e.types x []) ∷ count_of (get_or e.types x []) ∷ pairs (get_or e.types x []) t (at + 1)) o in
          let rs-same : rs ≡ ts = records_same b b' p d d'' n rest more-some more-one more-two in
          rw (r, rs-same)
        where
          row_pairs : (p : List ℕ) (at : ℕ) → Bytes s → Bytes t → (row : List ℕ) → GoodRow row → operands_of e p at row (pairs row s (at + 1)) ≡ operands_of e p at row (pairs row t (at + 1))
              → all_some (operands_of e p at row (pairs row s (at + 1))) ≡ true → first_operands e row (pairs row s (at + 1)) ≡ true → first_operands e row (pairs row t (at + 1)) ≡ true
              → pairs row s (at + 1) ≡ pairs row t (at + 1)
          row_pairs p at b b' row good q a f g =
              rw good.is_row
              (pairs_same e p at s t b b' good.types (8 - length good.codes) (at + 1) (rw good.is_row at q) (rw good.is_row at a) (rw good.is_row at f) (rw good.is_row at g))

      -- bodies that mean the same are the same
      pub body_same : Bytes s → Bytes t → (rs ts : List (List ℕ)) → decode_body e.types last s ≡ decoded rs → decode_body e.types last t ≡ decoded ts → Named e ts
          → meanings e (length s) rs ≡ meanings e (length t) ts → all_mean (meanings e (length s) rs) ≡ true → first_ids e rs ≡ true → first_ids e ts ≡ true → s ≡ t
      body_same b b' rs ts d d' n z a f g =
          let x = body_stands e.types last s rs d in
          let y = body_stands e.types last t ts d' in
          let places : places_of rs (length s) ≡ places_of ts (length t) = places_same (places_of rs (length s)) (places_of ts (length t)) (omega arith) (omega arith) x y n z in
          let z' : meanings_from e (places_of rs (length s)) rs ≡ meanings_from e (places_of rs (length s)) ts = z ∙ ap (λ (q : List ℕ). meanings_from e q ts) (sym places) in
          let same-records : rs ≡ ts = records_same b b' (places_of rs (length s)) x y n z' a f g in
          let w : encoded s ≡ encoded t =
          sym (reencoded e.types last s rs rows sound.byte b d)
          ∙ (ap (λ (l : List (List ℕ)). encode_records e.types last (join l)) same-records ∙ reencoded e.types last t ts rows sound.byte b' d') in
          cc w
