-- Instruction by instruction the result means what the body means. Assumes nothing.
use mathlib.Core.Path.{◌≡◌, refl, ap, sym, ◌∙◌}
use mathlib.Core.Bool.{true, false}
use mathlib.Core.List.{List, [], ◌∷◌}
use Prim.Native.Nat.{ℕ, suc, ◌+◌, ◌^◌, ◌≤◌, ◌<◌}
use native.Mathlib.Nat.{add-zero}
use native.Mathlib.Omega.{arith}
use lib.ListN.{length, get_or, drop, take}
use lib.Seq.{take_all, drop-drop, get_or-drop}
use borrow.Author.Tests.{ne_eqb}
use Rattle.lists.specs.Found.Found.{found}
use Rattle.lists.specs.Scan.{Bytes, same}
use Rattle.lists.specs.Text as characters
use Rattle.lists.proofs.Tests.{by_leb, by_eqb}
use Rattle.spec_numbers.specs.LittleEndian.{le, le_bytes}
use Rattle.spec_numbers.proofs.ByteLaws.{le_le_bytes}
use Rattle.spec_sheet.specs.Types.{width_of, family_of}
use Rattle.spec_sheet.specs.Sheet.{is_missing, find_name}
use Rattle.spec_sheet.proofs.TypeLaws.{family_some, family_none}
use Rattle.spec_sheet.proofs.OwnNameLaws.{found_size, found_bytes}
use Rattle.spec_sheet.specs.Row.{length_of}
use Rattle.spec_body.specs.Record.{pairs, offset_of, opcode_of, pairs_of}
use Rattle.spec_body.specs.Decode.{row_at}
use Rattle.spec_body.proofs.DecodeLaws.{Decoding}
use Rattle.spec_body.proofs.DecodeLaws.Decoding.{ended, more}
use Rattle.spec_body.proofs.ReencodeLaws.{part_below}
use Rattle.spec_inputs.specs.Context.{Context, name_of}
use Rattle.spec_inputs.proofs.NameLaws.{row_name_lem}
use Rattle.spec_carry.specs.Meaning.{operands_of, meaning_of, meanings_from, all_some, all_mean}
use Rattle.spec_carry.specs.Passes.{Carrying, far_cases, first_pass, moved_from, new_bits, new_opcode, new_row, old_row, opcode_into, operand_cases, operands_cases, or_zero, second_pass}
use Rattle.spec_carry.proofs.CaseLaws.{Passed, passed_left, passed_right, passed_head, passed_tail}
use Rattle.spec_carry.proofs.ValueLaws.{Rising, Good, good_operand_lem, same_value, value_some, new_fits, is_found}
use Rattle.spec_carry.proofs.ResultLaws.{new_pairs, new_record, new_records, Known}

-- the bits of operands fit their types
pub data Bounded : List ℕ → List ℕ → Type 0 where
  none : {ps : List ℕ} → Bounded [] ps
  one : {c : ℕ} {cs ps : List ℕ} → get_or ps 1 0 < 256 ^ width_of c → Bounded cs (drop 2 ps) → Bounded (c ∷ cs) ps

pairs_bounded : (s : List ℕ) → Bytes s → (row : List ℕ) (p : ℕ) → Bounded row (pairs row s p)
unfolding pairs
pairs_bounded s b [] p = none
pairs_bounded s b (c ∷ cs) p = one (part_below s p (width_of c) b) (pairs_bounded s b cs (p + width_of c))

-- so do those of every record of a body
pub data AllBounded (types : List (List ℕ)) (last : ℕ) : List (List ℕ) → Type 0 where
  none : AllBounded types last []
  one : {r : List ℕ} {rs : List (List ℕ)} → opcode_of r ≤ last → Bounded (get_or types (opcode_of r) []) (pairs_of r) → AllBounded types last rs → AllBounded types last (r ∷ rs)

pub decoding_bounded : (types : List (List ℕ)) (last : ℕ) (s : List ℕ) → Bytes s → {at : ℕ} {rs : List (List ℕ)} → Decoding types last s at rs → AllBounded types last rs
decoding_bounded types last s b (ended h) = none
decoding_bounded types last s b {at} (more h l k d) = one l (pairs_bounded s b (row_at types s at) (at + 1)) (decoding_bounded types last s b d)

-- every opcode of a body is at most the largest
pub data Within (last : ℕ) : List (List ℕ) → Type 0 where
  none : Within last []
  one : {r : List ℕ} {rs : List (List ℕ)} → opcode_of r ≤ last → Within last rs → Within last (r ∷ rs)

pub decoding_within : (types : List (List ℕ)) (last : ℕ) (s : List ℕ) {at : ℕ} {rs : List (List ℕ)} → Decoding types last s at rs → Within last rs
decoding_within types last s (ended h) = none
decoding_within types last s (more h l k d) = one l (decoding_within types last s d)

-- what is used of a sheet that was read: rows of eight codes, and names only up to the largest opcode
pub record Sound (e : Context) (last : ℕ) : Type 0 where
  pub byte : last ≤ 255
  pub eight : (k : ℕ) → k ≤ last → length (get_or e.types k []) ≡ 8
  pub codes : (k i : ℕ) → get_or (get_or e.types k []) i 0 ≤ 12
  pub infos_length : length e.infos ≡ 256
  pub named_below : (k : ℕ) → 0 < get_or (get_or e.infos k []) 3 0 → k ≤ last
  pub not_invalid : (k : ℕ) → 0 < get_or (get_or e.infos k []) 3 0 → same (name_of e k) (characters.text "<invalid>") ≡ false

-- the operands of a row
module _ (x : Carrying) (rising : Rising x) (i at : ℕ) where
  abbrev new : ℕ
  new = get_or x.moved i 0

  -- code 0 alone has family 0
  same_end : (d : ℕ) → d ≤ 12 → family_of 0 ≡ family_of d → d ≡ 0
  same_end d l f = by_leb d 0 (λ h. omega arith) (λ h. absurd (omega (arith, family_some d h l, family_none)))

  -- both rows at once; new is where the instruction stands now
  same_operands : (q : ℕ) (cs ds ps : List ℕ) → length cs ≡ length ds → ((j : ℕ) → get_or cs j 0 ≤ 12) → ((j : ℕ) → get_or ds j 0 ≤ 12) → Bounded cs ps
      → Passed (operands_cases x i at q cs ds ps) → Passed (far_cases x i at q cs ds ps)
      → operands_of x.into x.moved new ds (new_pairs x at new cs ds ps) ≡ operands_of x.from x.places at cs ps
  unfolding operands_of new_pairs operands_cases far_cases
  same_operands q [] [] ps e small small' b p f = refl
  same_operands q [] (d ∷ ds) ps e small small' b p f = absurd (omega arith)
  same_operands q (c ∷ cs) [] ps e small small' b p f = absurd (omega arith)
  same_operands q (c ∷ cs) (d ∷ ds) ps e small small' (one b bs) p f =
      let cases = operand_cases x i at q c d (get_or ps 1 0) in
      let good : Good x at new c d (get_or ps 1 0) = good_operand_lem x i at q new c d (get_or ps 1 0) (passed_left cases _ p) (passed_head f) in
      let v = new_bits x at new c d (get_or ps 1 0) in
      let fit : v < 256 ^ width_of d = new_fits x at new c d (get_or ps 1 0) good (small 0) (small' 0) b rising i refl in
      let back : le (le_bytes (width_of d) v) ≡ v = le_le_bytes (width_of d) v fit in
      by_eqb c 0
      (λ z. let w : d ≡ 0 = same_end d (small' 0) (ap family_of (sym z) ∙ good.family) in rw (z, w))
      (λ n. let m : d ≡ 0 → ⊥ = λ w. n (same_end c (small 0) (ap family_of (sym w) ∙ sym good.family)) in
      rw (
        ne_eqb c 0 n,
        ne_eqb d 0 m,
        back,
        good.family,
        same_value x at new c d (get_or ps 1 0) good rising i refl,
        same_operands (suc q) cs ds (drop 2 ps) (omega arith) (λ j. small (suc j)) (λ j. small' (suc j)) bs (passed_right cases _ p) (passed_tail f),
      ))

  -- every operand stands for something
  operands_some : (q : ℕ) (cs ds ps : List ℕ) → Passed (operands_cases x i at q cs ds ps) → Passed (far_cases x i at q cs ds ps) → all_some (operands_of x.from x.places at cs ps) ≡ true
  unfolding operands_of operands_cases far_cases all_some
  operands_some q [] ds ps p f = refl
  operands_some q (c ∷ cs) ds ps p f =
      let cases = operand_cases x i at q c (get_or ds 0 0) (get_or ps 1 0) in
      let good : Good x at new c (get_or ds 0 0) (get_or ps 1 0) = good_operand_lem x i at q new c (get_or ds 0 0) (get_or ps 1 0) (passed_left cases (operands_cases x i at (suc q) cs (drop 1 ds) (drop 2 ps)) p) (passed_head f) in
      by_eqb c 0 (λ z. rw z)
      (λ n. rw (ne_eqb c 0 n, value_some x at new c (get_or ds 0 0) (get_or ps 1 0) good, operands_some (suc q) cs (drop 1 ds) (drop 2 ps) (passed_right cases (operands_cases x i at (suc q) cs (drop 1 ds) (drop 2 ps)) p) (passed_tail f)))

-- the name: what the search found has it
module _ (from into : Context) (last : ℕ) (sound : Sound into last) (opcode k : ℕ) (e : opcode_into from into opcode ≡ found k) where
  searched : find_name into.sheet (name_of from opcode) 0 (take 256 into.infos) ≡ found k
  searched = rw (take_all 256 into.infos (omega (arith, sound.infos_length))) e

  pub name_size : 0 < get_or (get_or into.infos k []) 3 0
  name_size = found_size into.sheet (name_of from opcode) 256 into.infos k searched

  pub name_kept : name_of into k ≡ name_of from opcode
  name_kept = row_name_lem into k name_size ∙ found_bytes into.sheet (name_of from opcode) 256 into.infos k searched

  pub code_known : k ≤ last
  code_known = sound.named_below k name_size

-- an instruction
module _ (x : Carrying) (rising : Rising x) (last last' : ℕ) (old : Sound x.from last) (sound : Sound x.into last') where
  module _ (i : ℕ) (r : List ℕ) (rs : List (List ℕ)) (p : Passed (first_pass x i (r ∷ rs))) where
    is_known : is_missing (opcode_into x.from x.into (opcode_of r)) ≡ false
    unfolding first_pass
    is_known = passed_head p

    pub first_operands_lem : Passed (operands_cases x i (offset_of r) 1 (old_row x.from r) (new_row x.from x.into r) (pairs_of r))
    unfolding first_pass
    first_operands_lem = passed_left _ (first_pass x (suc i) rs) (passed_tail (passed_tail p))

    pub first_rest : Passed (first_pass x (suc i) rs)
    unfolding first_pass
    first_rest = passed_right (operands_cases x i (offset_of r) 1 (old_row x.from r) (new_row x.from x.into r) (pairs_of r)) _ (passed_tail (passed_tail p))

    pub opcode_known : new_opcode x.from x.into r ≤ last'
    unfolding or_zero
    opcode_known =
        is_found (opcode_into x.from x.into (opcode_of r)) is_known λ k e.
        rw e (code_known x.from x.into last' sound (opcode_of r) k e)

    same_name : name_of x.into (new_opcode x.from x.into r) ≡ name_of x.from (opcode_of r)
    unfolding or_zero
    same_name =
        is_found (opcode_into x.from x.into (opcode_of r)) is_known λ k e.
        rw e (name_kept x.from x.into last' sound (opcode_of r) k e)

    pub has_name : 0 < get_or (get_or x.into.infos (new_opcode x.from x.into r) []) 3 0
    unfolding or_zero
    has_name =
        is_found (opcode_into x.from x.into (opcode_of r)) is_known λ k e.
        rw e (name_size x.from x.into last' sound (opcode_of r) k e)

    pub valid_name : same (name_of x.into (new_opcode x.from x.into r)) (characters.text "<invalid>") ≡ false
    unfolding or_zero
    valid_name =
        is_found (opcode_into x.from x.into (opcode_of r)) is_known λ k e.
        rw e (sound.not_invalid k (name_size x.from x.into last' sound (opcode_of r) k e))

    module _ (l : opcode_of r ≤ last) (b : Bounded (old_row x.from r) (pairs_of r)) (f : Passed (far_cases x i (offset_of r) 1 (old_row x.from r) (new_row x.from x.into r) (pairs_of r))) where
      same_meaning : (at : ℕ) → get_or x.moved i 0 ≡ at → meaning_of x.into x.moved (new_record x at i r) ≡ meaning_of x.from x.places r
      same_meaning at here =
          let n : length (old_row x.from r) ≡ length (new_row x.from x.into r) = old.eight (opcode_of r) l ∙ sym (sound.eight _ opcode_known) in
          let o = same_operands x rising i (offset_of r) 1 (old_row x.from r) (new_row x.from x.into r) (pairs_of r) n (old.codes (opcode_of r)) (sound.codes _) b first_operands_lem f in
          rw (sym here, same_name, o)

  pub second_left : (i : ℕ) (r : List ℕ) (rs : List (List ℕ)) → Passed (second_pass x i (r ∷ rs)) → Passed (far_cases x i (offset_of r) 1 (old_row x.from r) (new_row x.from x.into r) (pairs_of r))
  unfolding second_pass
  second_left i r rs p = passed_left _ (second_pass x (suc i) rs) p

  pub second_right : (i : ℕ) (r : List ℕ) (rs : List (List ℕ)) → Passed (second_pass x i (r ∷ rs)) → Passed (second_pass x (suc i) rs)
  unfolding second_pass
  second_right i r rs p = passed_right (far_cases x i (offset_of r) 1 (old_row x.from r) (new_row x.from x.into r) (pairs_of r)) _ p

  -- every name is known
  pub all_known : (i : ℕ) (rs : List (List ℕ)) → Passed (first_pass x i rs) → Known x last' rs
  all_known i [] p = Known.none
  all_known i (r ∷ rs) p = Known.one (opcode_known i r rs p) (all_known (suc i) rs (first_rest i r rs p))

  -- all instructions, the first at index i, whose new start is `at`
  pub same_meanings : (i at : ℕ) {rs : List (List ℕ)} → AllBounded x.from.types last rs → drop i x.moved ≡ moved_from x.from x.into at rs
      → Passed (first_pass x i rs) → Passed (second_pass x i rs)
      → meanings_from x.into x.moved (new_records x at i rs) ≡ meanings_from x.from x.places rs
  unfolding meanings_from new_records moved_from
  same_meanings i at none d p s = refl
  same_meanings i at (one {r} {rs} l b bs) d p s =
      let here : get_or x.moved i 0 ≡ at = ap (λ (j : ℕ). get_or x.moved j 0) (sym (add-zero i)) ∙ (sym (get_or-drop i x.moved 0 0) ∙ ap (λ (t : List ℕ). get_or t 0 0) d) in
      let behind : drop (suc i) x.moved ≡ moved_from x.from x.into (at + length_of (new_row x.from x.into r)) rs =
      (let q : suc i ≡ i + 1 = omega arith in ap (λ (j : ℕ). drop j x.moved) q) ∙ (sym (drop-drop 1 i x.moved) ∙ ap (drop 1) d) in
      rw (same_meaning i r rs p l b (second_left i r rs s) at here, same_meanings (suc i) (at + length_of (new_row x.from x.into r)) bs behind (first_rest i r rs p) (second_right i r rs s))

  pub all_mean_lem : (i : ℕ) (rs : List (List ℕ)) → Passed (first_pass x i rs) → Passed (second_pass x i rs) → all_mean (meanings_from x.from x.places rs) ≡ true
  unfolding meanings_from all_mean
  all_mean_lem i [] p s = refl
  all_mean_lem i (r ∷ rs) p s =
      rw (
        operands_some x rising i (offset_of r) 1 (old_row x.from r) (new_row x.from x.into r) (pairs_of r) (first_operands_lem i r rs p) (second_left i r rs s),
        all_mean_lem (suc i) rs (first_rest i r rs p) (second_right i r rs s),
      )
