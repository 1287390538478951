-- Laws of a job's parts, case by case, and which line stands behind them. Assumes nothing.
use mathlib.Core.Path.{◌≡◌, refl, ap, sym, ◌∙◌}
use mathlib.Core.Bool.{Bool, true, false}
use mathlib.Core.List.{List, []}
use Prim.Native.Nat.{ℕ, ◌+◌, ◌-◌, ◌*◌, ◌≤◌}
use native.Mathlib.Omega.{arith}
use lib.Dec.{eqb}
use lib.ListN.{length}
use borrow.Author.Tests.{eq-eqb, ne_eqb, eqb-true, eqb-false}
use Rattle.lists.specs.Scan.{opens}
use Rattle.lists.specs.Text.{text}
use Rattle.spec_sheet.specs.Scan.{Step, after, literal_at, line_end}
use Rattle.spec_sheet.specs.Scan.Step.{next, off}
use Rattle.spec_sheet.specs.Sheet.{Sheet, SheetRead, OpsRead, ops_from, sheet_ops, sheet_at}
use Rattle.spec_sheet.specs.Sheet.SheetRead.{sheet, malformed}
use Rattle.spec_sheet.specs.Sheet.OpsRead.{all_read, fault_after as opsFault}
use Rattle.spec_sheet.proofs.SheetLaws.{version_at, count_at, no_version, no_count, count_zero, with_ops, ops_fault, sheet_lines}
use Rattle.spec_sheet.proofs.ScanLaws.{keyed_bound}
use Rattle.spec_job.specs.Hex.{HexRead}
use Rattle.spec_job.specs.Hex.HexRead.{hex, no_hex}
use Rattle.spec_job.specs.Table.{TableRead, on_hex, keyed_hex_at, strings_limit, table_at}
use Rattle.spec_job.specs.Table.TableRead.{table, fault_after}
use Rattle.spec_job.specs.Job.{JobInputs, JobRead, with_table, with_sheet, inputs_at, on_inputs, with_body, with_text, with_second, read_list, read_assemble, read_carry, read_word, read_job}
use Rattle.spec_job.specs.Job.InputsRead.{inputs, bad_inputs}
use Rattle.spec_job.specs.Job.JobRead.{bad_line, list_job, assemble_job, carry_job}
use Rattle.spec_job.proofs.TableLaws.{table_size, keyed_spread}

-- a sheet's malformed line is one of its first 258
pub sheet_fault : (s : List ℕ) (at k : ℕ) → sheet_at s at ≡ malformed k → (1 ≤ k) × (k ≤ 258)
unfolding sheet_ops
sheet_fault s at k e = version (version_at s at) refl
  where
    same : (j : ℕ) → sheet_at s at ≡ malformed j → j ≡ k
    same j q = let w : ◌≡◌ {A = SheetRead} (malformed j) (malformed k) = sym q ∙ e in cc w

    lines : (v n b : ℕ) → n ≤ 256 → (x : OpsRead) → ops_from n s b 0 [] ≡ x → sheet_at s at ≡ sheet_ops v (ops_from n s b 0 []) → (1 ≤ k) × (k ≤ 258)
    lines v n b h (all_read os c) p q = absurd (let w : ◌≡◌ {A = SheetRead} (sheet_ops v (all_read os c)) (malformed k) = ap (sheet_ops v) (sym p) ∙ (sym q ∙ e) in let z : ◌≡◌ {A = ℕ} 0 1 = cc w in omega arith)
    lines v n b h (opsFault j) p q = (omega (arith, same (3 + j) (q ∙ ap (sheet_ops v) p)), omega (arith, h, ops_fault n s b 0 [] j p, same (3 + j) (q ∙ ap (sheet_ops v) p)))

    count : (v a : ℕ) → version_at s at ≡ next v a → (x : Step) → count_at s at a ≡ x → (1 ≤ k) × (k ≤ 258)
    count v a p off q = (omega (arith, same 2 (no_count s at v a p q)), omega (arith, same 2 (no_count s at v a p q)))
    count v a p (next n b) q = zeroes (eqb n 0) refl
      where
        zeroes : (t : Bool) → eqb n 0 ≡ t → (1 ≤ k) × (k ≤ 258)
        zeroes true z = let w = same 2 (count_zero s at v a n b p q (eqb-true n 0 z)) in (omega (arith, w), omega (arith, w))
        zeroes false z = lines v n b (keyed_bound (text "count=") 256 line_end s a n b q) (ops_from n s b 0 []) refl (with_ops s at v a n b p q (eqb-false n 0 z))

    version : (x : Step) → version_at s at ≡ x → (1 ≤ k) × (k ≤ 258)
    version off q = (omega (arith, same 1 (no_version s at q)), omega (arith, same 1 (no_version s at q)))
    version (next v a) q = count v a q (count_at s at a) refl

-- the cases of inputs
module _ (s : List ℕ) (at line : ℕ) where
  pub inputs_whole : (sh : Sheet) (b : ℕ) (bs es : List ℕ) (c : ℕ) → sheet_at s at ≡ sheet sh b → table_at s b ≡ table bs es c
      → inputs_at s at line ≡ inputs (record { opcodes = sh.opcodes; bytes = bs; ends = es }) c (line + 2 + length sh.opcodes + 1 + length es)
  unfolding with_sheet with_table
  inputs_whole sh b bs es c e f = rw (e, with_sheet, f)

  pub inputs_strings : (sh : Sheet) (b k : ℕ) → sheet_at s at ≡ sheet sh b → table_at s b ≡ fault_after k → inputs_at s at line ≡ bad_inputs (line + 2 + length sh.opcodes + k)
  unfolding with_sheet with_table
  inputs_strings sh b k e f = rw (e, with_sheet, f)

  pub inputs_sheet : (k : ℕ) → sheet_at s at ≡ malformed k → inputs_at s at line ≡ bad_inputs (line + k - 1)
  unfolding with_sheet
  inputs_sheet k e = rw e

  -- what inputs that were read is made of
  pub record InputsParts (e : JobInputs) (c line' : ℕ) : Type 0 where
    pub of : Sheet
    pub place : ℕ
    pub is_sheet : sheet_at s at ≡ sheet of place
    pub is_table : table_at s place ≡ table e.bytes e.ends c
    pub opcodes_are : e.opcodes ≡ of.opcodes
    pub line_is : line' ≡ line + 2 + length of.opcodes + 1 + length e.ends

  pub inputs_parts : (e : JobInputs) (c line' : ℕ) → inputs_at s at line ≡ inputs e c line' → InputsParts e c line'
  inputs_parts e c line' q = first (sheet_at s at) refl
    where
      second : (sh : Sheet) (b : ℕ) → sheet_at s at ≡ sheet sh b → (x : TableRead) → table_at s b ≡ x → InputsParts e c line'
      second sh b p (table bs es d) r =
          let w = sym (inputs_whole sh b bs es d p r) ∙ q in
          let y : ◌≡◌ {A = JobInputs} (record { opcodes = sh.opcodes; bytes = bs; ends = es }) e = cc w in
          let z : d ≡ c = cc w in
          let n : line + 2 + length sh.opcodes + 1 + length es ≡ line' = cc w in
          record {
            of = sh;
            place = b;
            is_sheet = p;
            is_table = r ∙ (rw z (ap (λ (f : JobInputs). table f.bytes f.ends c) y));
            opcodes_are = sym (ap (λ (f : JobInputs). f.opcodes) y);
            line_is = sym n ∙ ap (λ (f : JobInputs). line + 2 + length sh.opcodes + 1 + length f.ends) y;
          }
      second sh b p (fault_after k) r = absurd (let w = sym (inputs_strings sh b k p r) ∙ q in let z : ◌≡◌ {A = ℕ} 0 1 = cc w in omega arith)

      first : (x : SheetRead) → sheet_at s at ≡ x → InputsParts e c line'
      first (sheet sh b) p = second sh b p (table_at s b) refl
      first (malformed k) p = absurd (let w = sym (inputs_sheet k p) ∙ q in let z : ◌≡◌ {A = ℕ} 0 1 = cc w in omega arith)

  -- at most 4,096 strings, half as many bytes as the text has, and 4,355 lines
  pub inputs_size : (e : JobInputs) (c line' : ℕ) → inputs_at s at line ≡ inputs e c line'
      → (length e.ends ≤ strings_limit) × ((2 * length e.bytes ≤ length s) × (line' ≤ line + 4355))
  inputs_size e c line' q =
      let p = inputs_parts e c line' q in
      let t = table_size s p.place e.bytes e.ends c p.is_table in
      (t.0, (t.1, omega (arith, p.line_is, t.0, sheet_lines s at p.of p.place p.is_sheet)))

-- the cases of a body
module _ (s : List ℕ) (at line : ℕ) (then : List ℕ → JobRead) where
  pub body_off : keyed_hex_at (text "body=") s at ≡ no_hex → with_body s at line then ≡ bad_line line
  unfolding with_body on_hex
  body_off e = rw e

  module _ (bs : List ℕ) (b : ℕ) (e : keyed_hex_at (text "body=") s at ≡ hex bs b) where
    pub body_whole : b ≡ length s → with_body s at line then ≡ then bs
    unfolding with_body on_hex
    body_whole h = rw (e, eq-eqb b (length s) h)

    pub body_more : (b ≡ length s → ⊥) → with_body s at line then ≡ bad_line (line + 1)
    unfolding with_body on_hex
    body_more h = rw (e, ne_eqb b (length s) h)

-- a text holds at most half as many bytes of a body
pub body_size : (s : List ℕ) (at line : ℕ) (bs : List ℕ) → ((then : List ℕ → JobRead) → with_body s at line then ≡ then bs) → 2 * length bs ≤ length s
body_size s at line bs f = go (keyed_hex_at (text "body=") s at) refl
  where
    -- a continuation that answers how many bytes it got, by a line that the body itself never answers
    counted : List ℕ → JobRead
    counted cs = bad_line (line + 2 + length cs)

    never : (n : ℕ) → n ≤ line + 1 → with_body s at line counted ≡ bad_line n → 2 * length bs ≤ length s
    never n h e = let w : ◌≡◌ {A = JobRead} (bad_line n) (bad_line (line + 2 + length bs)) = sym e ∙ f counted in let z : n ≡ line + 2 + length bs = cc w in absurd (omega (arith, z, h))

    read : (cs : List ℕ) (b : ℕ) → keyed_hex_at (text "body=") s at ≡ hex cs b → (t : Bool) → eqb b (length s) ≡ t → 2 * length bs ≤ length s
    read cs b q true z =
        let e = body_whole s at line counted cs b q (eqb-true b (length s) z) in
        let w : ◌≡◌ {A = JobRead} (bad_line (line + 2 + length cs)) (bad_line (line + 2 + length bs)) = sym e ∙ f counted in
        let n : line + 2 + length cs ≡ line + 2 + length bs = cc w in
        let r = keyed_spread (text "body=") s at cs b q in
        omega (arith, n, r.takes, r.inside_text)
    read cs b q false z = never (line + 1) (omega arith) (body_more s at line counted cs b q (eqb-false b (length s) z))

    go : (x : HexRead) → keyed_hex_at (text "body=") s at ≡ x → 2 * length bs ≤ length s
    go (hex cs b) q = read cs b q (eqb b (length s)) refl
    go no_hex q = never line (omega arith) (body_off s at line counted q)

-- a job by its first line
module _ (s : List ℕ) where
  pub job_list : opens (text "job=list\n") s ≡ true → read_job s ≡ read_list s 9
  unfolding read_job read_word literal_at after text
  job_list e = rw e

  module _ (n : opens (text "job=list\n") s ≡ false) where
    pub job_assemble : opens (text "job=assemble\n") s ≡ true → read_job s ≡ read_assemble s 13
    unfolding read_job read_word literal_at after text
    job_assemble e = rw (n, e)

    module _ (m : opens (text "job=assemble\n") s ≡ false) where
      pub job_carry : opens (text "job=carry\n") s ≡ true → read_job s ≡ read_carry s 10
      unfolding read_job read_word literal_at after text
      job_carry e = rw (n, m, e)

      pub job_other : opens (text "job=carry\n") s ≡ false → read_job s ≡ bad_line 1
      unfolding read_job read_word literal_at after
      job_other e = rw (n, m, e)

  -- one that asks for a listing by its inputs
  pub list_bad : (at line : ℕ) → inputs_at s at 2 ≡ bad_inputs line → read_list s at ≡ bad_line line
  unfolding read_list on_inputs
  list_bad at line e = rw e

  pub list_body : (at : ℕ) (e : JobInputs) (b line : ℕ) → inputs_at s at 2 ≡ inputs e b line → read_list s at ≡ with_body s b line (list_job e)
  unfolding read_list on_inputs
  list_body at e b line q = rw q

  -- one that asks for assembling likewise
  pub assemble_bad : (at line : ℕ) → inputs_at s at 2 ≡ bad_inputs line → read_assemble s at ≡ bad_line line
  unfolding read_assemble on_inputs
  assemble_bad at line e = rw e

  pub assemble_text : (at : ℕ) (e : JobInputs) (b line : ℕ) → inputs_at s at 2 ≡ inputs e b line → read_assemble s at ≡ with_text s b line e
  unfolding read_assemble on_inputs
  assemble_text at e b line q = rw q

  -- and one that asks for carrying, by its first inputs and by its second
  pub carry_bad : (at line : ℕ) → inputs_at s at 2 ≡ bad_inputs line → read_carry s at ≡ bad_line line
  unfolding read_carry on_inputs
  carry_bad at line e = rw e

  pub carry_second : (at : ℕ) (e : JobInputs) (b line : ℕ) → inputs_at s at 2 ≡ inputs e b line → read_carry s at ≡ with_second s b line e
  unfolding read_carry on_inputs
  carry_second at e b line q = rw q

  pub second_bad : (at line : ℕ) (e : JobInputs) (bad : ℕ) → inputs_at s at line ≡ bad_inputs bad → with_second s at line e ≡ bad_line bad
  unfolding with_second on_inputs
  second_bad at line e bad q = rw q

  pub second_body : (at line : ℕ) (e f : JobInputs) (b line' : ℕ) → inputs_at s at line ≡ inputs f b line' → with_second s at line e ≡ with_body s b line' (carry_job e f)
  unfolding with_second on_inputs
  second_body at line e f b line' q = rw q

  module _ (at line : ℕ) (e : JobInputs) where
    pub text_starts : (v b : ℕ) → literal_at (text "text=\n") s at ≡ next v b → with_text s at line e ≡ assemble_job e b
    unfolding with_text after
    text_starts v b q = rw q

    pub text_off : literal_at (text "text=\n") s at ≡ off → with_text s at line e ≡ bad_line line
    unfolding with_text after
    text_off q = rw q
