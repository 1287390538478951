-- What reading a sheet answers, case by case. Assumes nothing.
use mathlib.Core.Path.{◌≡◌, refl, ap, sym, ◌∙◌}
use mathlib.Core.List.{List, []}
use Prim.Native.Nat.{ℕ, ◌+◌, ◌-◌, ◌≤◌, ◌<◌}
use native.Mathlib.Nat.{zero-add}
use native.Mathlib.Omega.{arith}
use lib.ListN.{length}
use Rattle.std.specs.Prelude.{Result, Ok, Err}
use Rattle.answers.specs.declared.refusal.Refusal.{Refusal}
use Rattle.answers.specs.declared.refusal.Refusal.TheVariants.{Malformed}
use Rattle.spec_sheet.specs.Line.{Op}
use borrow.Author.Tests.{eq-eqb, ne_eqb}
use Rattle.spec_sheet.specs.Sheet as spec
use Rattle.spec_sheet.specs.Sheet.{ends_at, sheet_at, sheet_of, OpsRead, ops_from, above, largest, type_rows, info_rows, no_type_rows, no_info_rows, SheetRead, sheet_ops}
use Rattle.spec_sheet.specs.Sheet.OpsRead.{all_read, fault_after}
use Rattle.spec_sheet.specs.Sheet.SheetRead.{sheet, malformed}
use Rattle.spec_sheet.proofs.SheetLaws.{ops_count, ops_fault, sheet_lines, whole_sheet}
use Rattle.spec_sheet.proofs.RowLaws.{sheet_above_least, sheet_above_most}
use Rattle.sheet.specs.Sheets.{ops_of, sheet_answer, types_in, infos_in}
use Rattle.sheet.specs.declared.opcode.Ops.{Ops}
use Rattle.sheet.specs.declared.opcode.SheetRead.{SheetRead as Numbers}

-- a reading's answer and both tables
pub record Answers (x : SheetRead) (r : Result Numbers Refusal) (types infos : List (List ℕ)) : Type 0 where
  pub answer_is : r ≡ sheet_answer x
  pub types_are : types ≡ types_in x
  pub infos_are : infos ≡ infos_in x

pub refused : (x : SheetRead) (k : ℕ) (types infos : List (List ℕ)) → x ≡ malformed k → types ≡ no_type_rows → infos ≡ no_info_rows → Answers x (Err (Malformed k)) types infos
unfolding sheet_answer types_in infos_in
refused x k types infos e t i = rw e record { answer_is = refl; types_are = t; infos_are = i }

-- the opcode lines were read, or one was malformed
record All-read (x : OpsRead) (o : Ops) : Type 0 where
  ops : List Op
  is_all : x ≡ all_read ops o.end
  last : above 0 ops ≡ o.above

was_all : (x : OpsRead) {o : Ops} → ops_of x ≡ Ok o → All-read x o
unfolding ops_of
was_all (all_read os a) {o} e =
    let q : ◌≡◌ {A = Ops} (record { above = above 0 os; end = a }) o = cc e in
    record { ops = os; is_all = ap (λ (r : Ops). all_read os r.end) q; last = ap (λ (r : Ops). r.above) q }
was_all (fault_after k) e = cc e

pub was_fault : (x : OpsRead) (k : ℕ) → ops_of x ≡ Err k → x ≡ fault_after k
unfolding ops_of
was_fault (all_read os a) k e = cc e
was_fault (fault_after j) k e = let p : j ≡ k = cc e in ap fault_after p

-- a fault is in one of the lines
pub fault_inside : (n : ℕ) (s : List ℕ) (b k : ℕ) → ops_of (ops_from n s b 0 []) ≡ Err k → k < n
fault_inside n s b k e = omega (arith, ops_fault n s b 0 [] k (was_fault _ k e))

pub fault_line : (v k : ℕ) (x : OpsRead) → ops_of x ≡ Err k → sheet_ops v x ≡ malformed (3 + k)
unfolding sheet_ops
fault_line v k x e = rw (was_fault x k e)

as_read : (v n : ℕ) (o : Ops) (types infos : List (List ℕ)) (x : OpsRead) (os : List Op) → x ≡ all_read os o.end → n ≡ length os → o.above ≡ above 0 os → types ≡ type_rows os → infos ≡ info_rows os
    → Answers (sheet_ops v x) (Ok (record { version = v; count = n; largest = o.above - 1; end = o.end })) types infos
unfolding sheet_ops sheet_answer types_in infos_in
as_read v n o types infos x os p q r t i = rw p record { answer_is = rw (q, r) refl; types_are = t; infos_are = i }

pub whole : (v n : ℕ) (s : List ℕ) (b : ℕ) {o : Ops} (types infos : List (List ℕ)) → ops_of (ops_from n s b 0 []) ≡ Ok o
    → ((os : List Op) (d : ℕ) → ops_from n s b 0 [] ≡ all_read os d → (types ≡ type_rows os) × (infos ≡ info_rows os))
    → Answers (sheet_ops v (ops_from n s b 0 [])) (Ok (record { version = v; count = n; largest = o.above - 1; end = o.end })) types infos
whole v n s b {o} types infos e f =
    let w = was_all _ e in
    let t = f w.ops o.end w.is_all in
    let l : n ≡ length w.ops = sym (ops_count n s b 0 [] w.ops o.end w.is_all ∙ zero-add n) in
    as_read v n o types infos (ops_from n s b 0 []) w.ops w.is_all l (sym w.last) t.0 t.1

-- a sheet that was read has an opcode at least
pub some_opcode : (s : List ℕ) (at v : ℕ) {o : Ops} (x : OpsRead) → sheet_at s at ≡ sheet_ops v x → ops_of x ≡ Ok o → 1 ≤ o.above
unfolding sheet_ops
some_opcode s at v {o} x e f =
    let w = was_all x f in
    omega (arith, w.last, sheet_above_least s at (record { version = v; opcodes = w.ops }) o.end (e ∙ ap (sheet_ops v) w.is_all))

-- from the answer back to the sheet
pub record Sheet-read (x : SheetRead) (r : Numbers) : Type 0 where
  pub of : spec.Sheet
  pub is_sheet : x ≡ sheet of r.end
  pub lines : length of.opcodes ≡ r.count
  pub last : largest of.opcodes ≡ r.largest

pub was_read : (x : SheetRead) {r : Numbers} → sheet_answer x ≡ Ok r → Sheet-read x r
unfolding sheet_answer
was_read (sheet sh b) {r} e =
    let q : ◌≡◌ {A = Numbers} (record { version = sh.version; count = length sh.opcodes; largest = largest sh.opcodes; end = b }) r = cc e in
    record { of = sh; is_sheet = ap (λ (n : Numbers). sheet sh n.end) q; lines = ap (λ (n : Numbers). n.count) q; last = ap (λ (n : Numbers). n.largest) q }
was_read (malformed k) e = cc e

-- and to the line that is malformed
pub record MalformedAt (x : SheetRead) (f : Refusal) : Type 0 where
  pub line : ℕ
  pub is_malformed : x ≡ malformed line
  pub refusal_is : f ≡ Malformed line

pub was_malformed : (x : SheetRead) {f : Refusal} → sheet_answer x ≡ Err f → MalformedAt x f
unfolding sheet_answer
was_malformed (sheet sh b) e = cc e
was_malformed (malformed j) {f} e = let q : Malformed j ≡ f = cc e in record { line = j; is_malformed = refl; refusal_is = sym q }

-- a text that ends behind its sheet, one that goes on there, and one that is malformed before
module _ (end : ℕ) (x : SheetRead) {r : Numbers} (e : sheet_answer x ≡ Ok r) where
  pub ends_here : r.end ≡ end → ends_at end x ≡ x
  unfolding ends_at
  ends_here h = rw ((was_read x e).is_sheet, eq-eqb r.end end h)

  pub goes_on : (r.end ≡ end → ⊥) → ends_at end x ≡ malformed (3 + r.count)
  unfolding ends_at
  goes_on h = let w = was_read x e in rw (w.is_sheet, ne_eqb r.end end h, w.lines)

pub stays : (end : ℕ) (x : SheetRead) {f : Refusal} → sheet_answer x ≡ Err f → ends_at end x ≡ x
unfolding ends_at
stays end x e = rw (was_malformed x e).is_malformed

-- a sheet has at most 256 lines, and no opcode above 255
pub few_lines : (s : List ℕ) (at : ℕ) {r : Numbers} → sheet_answer (sheet_at s at) ≡ Ok r → r.count ≤ 256
few_lines s at {r} e = let w = was_read (sheet_at s at) e in omega (arith, w.lines, sheet_lines s at w.of r.end w.is_sheet)

pub few_opcodes : (s : List ℕ) {r : Numbers} → sheet_answer (sheet_of s) ≡ Ok r → r.largest ≤ 255
few_opcodes s {r} e =
    let w = was_read (sheet_of s) e in
    omega (arith, w.last, sheet_above_most s 0 w.of r.end (whole_sheet s w.of r.end w.is_sheet))
