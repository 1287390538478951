-- Carrying to the same sheet and table gives the body again, and so does carrying there and back, exactly where the body's string
-- ids are the first of their texts. Assumes nothing.
use mathlib.Core.Path.{◌≡◌, refl, ap, sym, ◌∙◌}
use mathlib.Core.Bool.{true, false}
use mathlib.Core.List.{List, [], ◌∷◌}
use Prim.Native.Nat.{ℕ, suc, ◌+◌, ◌<◌}
use native.Mathlib.Omega.{arith}
use lib.Dec.{eqb}
use lib.ListN.{length, get_or, drop}
use lib.Seq.{take_all}
use borrow.Author.Tests.{eq-eqb, ne_eqb, lt-ltb}
use Rattle.lists.specs.Found.Found.{found}
use Rattle.lists.specs.Choice.{pick}
use Rattle.lists.specs.Scan.{Bytes}
use Rattle.lists.proofs.Tests.{by_eqb, both_yes, true_not_false}
use Rattle.answers.specs.Outcome.{Result, produced}
use Rattle.answers.specs.Outcome.Outcome.{result}
use Rattle.answers.proofs.OutcomeLaws.{same_result}
use Rattle.spec_numbers.specs.LittleEndian.{le, le_bytes}
use Rattle.spec_sheet.specs.Types.{width_of, family_of}
use Rattle.spec_sheet.specs.Row.{length_of}
use Rattle.spec_sheet.specs.Sheet.{Sheet, SheetRead, sheet_of, info_rows, find_name, largest}
use Rattle.spec_sheet.specs.Sheet.SheetRead.{sheet, malformed}
use Rattle.spec_sheet.proofs.RowLaws.{info_rows_length}
use Rattle.spec_sheet.proofs.SheetLaws.{whole_sheet}
use Rattle.spec_strings.specs.Table.{lookup}
use Rattle.spec_strings.proofs.TableLaws.{lookup_there, lookup_equal}
use Rattle.spec_inputs.specs.Context.{name_of, has_text, text_at}
use Rattle.spec_inputs.specs.Inputs.{context_of}
use Rattle.spec_inputs.proofs.NameLaws.{name_found}
use Rattle.spec_body.specs.Record.{offset_of, opcode_of, pairs_of}
use Rattle.spec_body.specs.Decode.{decode_body}
use Rattle.spec_body.specs.Decode.Decoded.{decoded}
use Rattle.spec_body.proofs.RowLaws.{GoodRows}
use Rattle.spec_body.proofs.SheetTables.{good_sheet}
use Rattle.spec_carry.specs.Meaning.{meanings, all_mean}
use Rattle.spec_carry.specs.Passes.{Carrying, or_zero, old_row, new_row, new_id, operand_cases, operands_cases, first_pass, far_cases, second_pass, new_bits}
use Rattle.spec_carry.specs.Carry.{Given, sheet_case, context_in, largest_in, from, into, records_in, records_of, carrying_of, carried, carry}
use Rattle.spec_carry.specs.FirstIds.{is_first_id, first_operands, first_ids}
use Rattle.spec_carry.proofs.CaseLaws.{Passed, passed_left, passed_right, passed_head, passed_tail}
use Rattle.spec_carry.proofs.ValueLaws.{Rising, Good, good_operand_lem, is_found, string_read}
use Rattle.spec_carry.proofs.ResultLaws.{new_pairs, new_records}
use Rattle.spec_carry.proofs.MeaningLaws.{Within, decoding_within, Sound, first_operands_lem, first_rest, opcode_known, has_name, second_left, second_right}
use Rattle.spec_carry.proofs.SameLaws.{Named, body_same}
use Rattle.spec_carry.proofs.CarryLaws.{last₁, last₂, carried_records, sound₁, sound₂, rising, stands, accepted, result_is, carried_records_lem, carried_decodes, carried_means, carried_says, carried_bytes}

-- an id that is written is the first of its text
module _ (x : Carrying) (at new c d bits : ℕ) (good : Good x at new c d bits) where
  abbrev read : ℕ
  read = le (le_bytes (width_of d) (new_bits x at new c d bits))

  string_first : family_of c ≡ 3 → is_first_id x.into read ≡ true
  unfolding is_first_id new_bits or_zero
  string_first f =
      is_found (new_id x bits) (good.known f) λ k e.
      let w : read ≡ k = string_read x at new c d bits good f ∙ rw (f, e) in
      let h : has_text x.into k ≡ true = lt-ltb k (length x.into.ends) (lookup_there (text_at x.from bits) x.into.bytes x.into.ends k e) in
      let q : lookup (text_at x.into k) x.into.bytes x.into.ends ≡ found k =
      ap (λ (t : List ℕ). lookup t x.into.bytes x.into.ends) (lookup_equal (text_at x.from bits) x.into.bytes x.into.ends k e) ∙ e in
      rw (w, h, q, eq-eqb k k refl)

  operand_first : pick (eqb (family_of d) 3) (is_first_id x.into read) true ≡ true
  operand_first =
      by_eqb (family_of c) 3
      (λ f. let g : family_of d ≡ 3 = sym good.family ∙ f in rw g (string_first f))
      (λ n. rw (sym good.family, ne_eqb (family_of c) 3 n))

operands_first : (x : Carrying) (i at q : ℕ) (cs ds ps : List ℕ) → length cs ≡ length ds → Passed (operands_cases x i at q cs ds ps) → Passed (far_cases x i at q cs ds ps)
    → first_operands x.into ds (new_pairs x at (get_or x.moved i 0) cs ds ps) ≡ true
unfolding first_operands new_pairs operands_cases far_cases
operands_first x i at q cs [] ps e p f = refl
operands_first x i at q [] (d ∷ ds) ps e p f = absurd (omega arith)
operands_first x i at q (c ∷ cs) (d ∷ ds) ps e p f =
    let cases = operand_cases x i at q c d (get_or ps 1 0) in
    let new = get_or x.moved i 0 in
    let good : Good x at new c d (get_or ps 1 0) = good_operand_lem x i at q new c d (get_or ps 1 0) (passed_left cases _ p) (passed_head f) in
    both_yes _ _ (operand_first x at new c d (get_or ps 1 0) good)
    (operands_first x i at (suc q) cs ds (drop 2 ps) (omega arith) (passed_right cases _ p) (passed_tail f))

-- so are all of a result, and its opcodes have names
module _ (x : Carrying) (rising : Rising x) (last last' : ℕ) (old : Sound x.from last) (sound : Sound x.into last') where
  records_first : (at i : ℕ) {rs : List (List ℕ)} → Within last rs → Passed (first_pass x i rs) → Passed (second_pass x i rs) → first_ids x.into (new_records x at i rs) ≡ true
  unfolding new_records first_ids
  records_first at i Within.none p s = refl
  records_first at i (Within.one {r} {rs} l ls) p s =
      let row = new_row x.from x.into r in
      let n : length (old_row x.from r) ≡ length row = old.eight (opcode_of r) l ∙ sym (sound.eight _ (opcode_known x rising last last' old sound i r rs p)) in
      both_yes _ _
      (operands_first x i (offset_of r) 1 (old_row x.from r) row (pairs_of r) n (first_operands_lem x rising last last' old sound i r rs p) (second_left x rising last last' old sound i r rs s))
      (records_first (at + length_of row) (suc i) ls (first_rest x rising last last' old sound i r rs p) (second_right x rising last last' old sound i r rs s))

  records_named : (at i : ℕ) (rs : List (List ℕ)) → Passed (first_pass x i rs) → Named x.into (new_records x at i rs)
  unfolding new_records
  records_named at i [] p = Named.none
  records_named at i (r ∷ rs) p =
      Named.one (has_name x rising last last' old sound i r rs p)
      (records_named (at + length_of (new_row x.from x.into r)) (suc i) rs (first_rest x rising last last' old sound i r rs p))

-- a sheet that was read: its rows are codes and then zeros, and a name is found at its opcode again
read_rows : (r : SheetRead) (text bytes ends : List ℕ) → sheet_of text ≡ r → (sheet_case r).holds ≡ false → GoodRows (context_in r text bytes ends).types
unfolding sheet_case context_in
read_rows (sheet sh at) text bytes ends e h = (good_sheet text sh at e).rows
read_rows (malformed line) text bytes ends e h = true_not_false true refl h

sheet_own : (text : List ℕ) (sh : Sheet) (at : ℕ) → sheet_of text ≡ sheet sh at → (bytes ends : List ℕ) → Sound (context_of text sh.opcodes bytes ends) (largest sh.opcodes)
    → (k : ℕ) → 0 < get_or (get_or (info_rows sh.opcodes) k []) 3 0 → find_name text (name_of (context_of text sh.opcodes bytes ends) k) 0 (info_rows sh.opcodes) ≡ found k
sheet_own text sh at e bytes ends sound k h =
    ap (find_name text (name_of (context_of text sh.opcodes bytes ends) k) 0) (sym (take_all 256 (info_rows sh.opcodes) (omega (arith, info_rows_length sh.opcodes))))
    ∙ name_found text 0 sh at (whole_sheet text sh at e) bytes ends k 256 (omega (arith, sound.named_below k h, sound.byte)) h

read_own : (r : SheetRead) (text bytes ends : List ℕ) → sheet_of text ≡ r → (sheet_case r).holds ≡ false → Sound (context_in r text bytes ends) (largest_in r) → (k : ℕ)
    → 0 < get_or (get_or (context_in r text bytes ends).infos k []) 3 0
    → find_name (context_in r text bytes ends).sheet (name_of (context_in r text bytes ends) k) 0 (context_in r text bytes ends).infos ≡ found k
unfolding sheet_case context_in largest_in
read_own (sheet sh at) text bytes ends e h sound k l = sheet_own text sh at e bytes ends sound k l
read_own (malformed line) text bytes ends e h sound k l = true_not_false true refl h

module _ (g : Given) (r : Result) (e : carry g ≡ result r) where
  -- every string id of a result is the first of its text
  pub carried_first : first_ids (into g) (carried_records g) ≡ true
  carried_first =
      let a = accepted g r e in
      ap (first_ids (into g)) (carried_records_lem g r e)
      ∙ records_first (carrying_of g) (rising g a) (last₁ g) (last₂ g) (sound₁ g a) (sound₂ g a) 0 0 (decoding_within _ (last₁ g) g.body (stands g a)) a.first_passed a.second_passed

  named : Named (into g) (carried_records g)
  named =
      let a = accepted g r e in
      rw (carried_records_lem g r e) (records_named (carrying_of g) (rising g a) (last₁ g) (last₂ g) (sound₁ g a) (sound₂ g a) 0 0 (records_of g) a.first_passed)

  -- a body that means the same under the second sheet and table, and has such ids too, is the result
  pub carried_only : (s : List ℕ) → Bytes s → (rs : List (List ℕ)) → decode_body (into g).types (last₂ g) s ≡ decoded rs
      → meanings (into g) (length s) rs ≡ meanings (into g) (length (carried g)) (carried_records g) → all_mean (meanings (into g) (length s) rs) ≡ true
      → first_ids (into g) rs ≡ true → carried g ≡ s
  carried_only s b rs d same some first =
      let a = accepted g r e in
      sym (body_same (into g) (last₂ g) (sound₂ g a)
      (read_rows (sheet_of g.sheet₂) g.sheet₂ g.bytes₂ g.ends₂ refl a.read₂)
      (read_own (sheet_of g.sheet₂) g.sheet₂ g.bytes₂ g.ends₂ refl a.read₂ (sound₂ g a))
      s (carried g) b (carried_bytes g r e) rs (carried_records g) d (carried_decodes g r e) named same some first carried_first)

-- to the same sheet and table
abbrev pub unmoved : List ℕ → List ℕ → List ℕ → List ℕ → Given
unmoved text bytes ends body =
    record { sheet₁ = text; bytes₁ = bytes; ends₁ = ends; sheet₂ = text; bytes₂ = bytes; ends₂ = ends; body = body }

-- carrying to the same sheet and table gives the body itself, exactly where its string ids are the first of their texts
pub same_sheet : (text bytes ends body : List ℕ) (n : ℕ) (bs need : List ℕ) → Bytes body → carry (unmoved text bytes ends body) ≡ produced n bs need
    → (first_ids (from (unmoved text bytes ends body)) (records_of (unmoved text bytes ends body)) ≡ true → bs ≡ body)
    × (bs ≡ body → first_ids (from (unmoved text bytes ends body)) (records_of (unmoved text bytes ends body)) ≡ true)
same_sheet text bytes ends body n bs need b e =
    let g = unmoved text bytes ends body in
    let w : bs ≡ carried g = (same_result (result_is g _ e)).output_is in
    let a = accepted g _ e in (
      λ first. w ∙ carried_only g _ e body b (records_of g) a.was_decoded (sym (carried_means g _ e b)) (carried_says g _ e) first,
      λ same. let z : carried g ≡ body = sym w ∙ same in
          let q : carried_records g ≡ records_of g = ap (λ (s : List ℕ). records_in (decode_body (into g).types (last₂ g) s)) z in
          sym (ap (first_ids (into g)) q) ∙ carried_first g _ e,
    )

-- back from the second sheet and table to the first
abbrev pub back : Given → List ℕ → Given
back g bs =
    record { sheet₁ = g.sheet₂; bytes₁ = g.bytes₂; ends₁ = g.ends₂; sheet₂ = g.sheet₁; bytes₂ = g.bytes₁; ends₂ = g.ends₁; body = bs }

-- carrying there and back gives the first bytes, exactly where the body's string ids are the first of their texts
pub there_and_back : (g : Given) (n : ℕ) (bs need : List ℕ) (m : ℕ) (cs need' : List ℕ) → Bytes g.body → carry g ≡ produced n bs need → carry (back g bs) ≡ produced m cs need'
    → (first_ids (from g) (records_of g) ≡ true → cs ≡ g.body) × (cs ≡ g.body → first_ids (from g) (records_of g) ≡ true)
there_and_back g n bs need m cs need' b e f =
    let v : bs ≡ carried g = (same_result (result_is g _ e)).output_is in
    let h = back g (carried g) in
    let f' : carry h ≡ produced m cs need' = rw v at f in
    let w : cs ≡ carried h = (same_result (result_is h _ f')).output_is in
    let a = accepted g _ e in (
      λ first. w ∙ carried_only h _ f' g.body b (records_of g) a.was_decoded
          (sym (carried_means h _ f' (carried_bytes g _ e) ∙ carried_means g _ e b)) (carried_says g _ e) first,
      λ same. let z : carried h ≡ g.body = sym w ∙ same in
          let q : carried_records h ≡ records_of g = ap (λ (s : List ℕ). records_in (decode_body (from g).types (last₁ g) s)) z in
          sym (ap (first_ids (from g)) q) ∙ carried_first h _ f',
    )
