-- Laws of what a line is, by places of it. Assumes nothing.
use mathlib.Core.Path.{◌≡◌, refl, sym}
use mathlib.Core.Bool.{true, false}
use Prim.Native.Nat.{ℕ, ◌-◌, ◌+◌, ◌≤◌, ◌<◌}
use native.Mathlib.Omega.{arith}
use mathlib.Core.List.{List}
use lib.ListN.{length, take, drop}
use lib.Seq.{take-take, take-length, drop-drop, length-take-le}
use Rattle.lists.specs.Scan.{run, part}
use Rattle.lists.proofs.Parts.{part_length}
use Rattle.spec_inputs.specs.Context.{Context}
use Rattle.spec_hasm.specs.Text.{is_white, solid_length, trim}
use Rattle.spec_hasm.specs.Comment.{outside, strip_comment}
use Rattle.spec_hasm.specs.Line.{is_skipped, is_label, behind_offset, statement_in, statement_of}
use Rattle.hasm_read.specs.Statements.{StatementIn}
use Rattle.hasm_read.specs.Statements.StatementIn.{none, label, code}
use Rattle.hasm_read.specs.declared.statement.Statement.TheVariants.{Nothing, Label, Instruction}
use Rattle.hasm_read.proofs.PartLaws.{drop_take}
use Rattle.hasm_read.proofs.ShapeLaws.{kept_not_empty}
use Rattle.hasm_read.proofs.LabelLaws.{label_kept, label_alone}

-- what stands of a line: the n bytes at a, s
pub record Cut (line : List ℕ) (a n : ℕ) (s : List ℕ) : Type 0 where
  pub text : trim (strip_comment line) ≡ s
  pub shown : s ≡ part line a n
  pub room : a + n ≤ length line

-- the places that a scan finds: the comment at c, the end a of the white space in front, and the length n without that behind
pub cut_at : (line : List ℕ) (c a n : ℕ) → (c ≡ outside 0 line) × (c ≤ length line) → (a ≡ 0 + run is_white (take c line)) × (a ≤ length (take c line))
    → (n ≡ solid_length (part line a (c - a))) × (n ≤ length (part line a (c - a))) → Cut line a n (part line a (a + n - a))
unfolding trim
cut_at line c a n p q r =
    let y : a + n - a ≡ n = omega arith in
    let f : run is_white (take c line) ≡ a = omega (arith, q.0) in
    let i : a ≤ c = omega (arith, q.1, length-take-le c line p.1) in
    let j : n ≤ c - a = omega (arith, r.1, part_length line a (c - a) (omega (arith, i, p.1))) in
    record { text = rw (sym p.0, f, drop_take a c line, sym r.0, y) (take-take n (c - a) (drop a line) j); shown = rw y; room = omega (arith, i, j, p.1) }

module _ (line : List ℕ) (a n : ℕ) (s : List ℕ) (h : Cut line a n s) where
  size : length s ≡ n
  size = rw h.shown (part_length line a n h.room)

  -- a line that is not skipped is not empty
  pub not_empty : is_skipped s ≡ false → 0 < n
  not_empty t = omega (arith, kept_not_empty s t, size)

  pub nothing_of : (e : Context) → is_skipped s ≡ true → StatementIn (statement_of e line) line Nothing
  unfolding statement_in
  nothing_of e t = none (rw (h.text, t)) refl

  module _ (e : Context) (t : is_skipped s ≡ false) where
    pub label_of : is_label s ≡ true → StatementIn (statement_of e line) line (Label a (n - 1))
    unfolding statement_in
    label_of l =
        let k : 0 < n = not_empty t in
        label a (n - 1) (rw (h.text, t, l, size, h.shown, take-take (n - 1) n (drop a line) (omega arith))) refl (omega (arith, h.room))

    pub code_of : is_label s ≡ false → (m : ℕ) → behind_offset e s ≡ drop m s → m ≤ length s → StatementIn (statement_of e line) line (Instruction (a + m) (a + n))
    unfolding statement_in
    code_of l m b k =
        let f : m ≤ n = omega (arith, k, size) in
        let z : a + n - (a + m) ≡ n - m = omega arith in
        code (a + m) (a + n) (rw (h.text, t, l, b, h.shown, drop_take m n (drop a line), drop-drop m a line, z)) refl (omega (arith, f)) h.room

-- by what a scan found: the comment at c, the white space up to a, and n bytes without that at the end
module _ (line : List ℕ) (c a n : ℕ) (p : (c ≡ outside 0 line) × (c ≤ length line)) (q : (a ≡ 0 + run is_white (take c line)) × (a ≤ length (take c line)))
    (r : (n ≡ solid_length (part line a (c - a))) × (n ≤ length (part line a (c - a)))) where
  abbrev cut_text : List ℕ
  cut_text = part line a (a + n - a)

  cut : Cut line a n cut_text
  cut = cut_at line c a n p q r

  pub cut_not_empty : is_skipped cut_text ≡ false → 0 < n
  cut_not_empty t = not_empty line a n cut_text cut t

  pub no_statement : (e : Context) → is_skipped cut_text ≡ true → StatementIn (statement_of e line) line Nothing
  no_statement e t = nothing_of line a n cut_text cut e t

  pub a_label : (e : Context) → is_skipped cut_text ≡ false → is_label cut_text ≡ true → StatementIn (statement_of e line) line (Label a (n - 1))
  a_label e t l = label_of line a n cut_text cut e t l

  pub a_code : (e : Context) → is_skipped cut_text ≡ false → is_label cut_text ≡ false → (m : ℕ) → behind_offset e cut_text ≡ drop m cut_text → m ≤ length cut_text
      → StatementIn (statement_of e line) line (Instruction (a + m) (a + n))
  a_code e t l m b k = code_of line a n cut_text cut e t l m b k

-- a label alone on its line: all of the line stands
pub a_label_alone : (e : Context) (line : List ℕ) → is_label line ≡ true → StatementIn (statement_of e line) line (Label 0 (length line - 1))
a_label_alone e line l =
    let h : Cut line 0 (length line) line = record { text = label_alone line l; shown = sym (take-length line); room = omega arith } in
    label_of line 0 (length line) line h e (label_kept line l) l
