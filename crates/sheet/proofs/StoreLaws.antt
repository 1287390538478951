-- An opcode line that is stored, or refused. Assumes nothing.
use mathlib.Core.Path.{◌≡◌, refl, ap, sym, ◌∙◌}
use mathlib.Core.Bool.{Bool, true, false}
use mathlib.Core.List.{List}
use Prim.Native.Nat.{ℕ, ◌≤◌, ◌<◌}
use native.Mathlib.Omega.{arith}
use lib.ListN.{take, set}
use Rattle.std.specs.Prelude.{Option, Some, None}
use Rattle.lists.specs.Choice.{pick}
use Rattle.spec_sheet.specs.Line.{LineRead, line_at, info_row, op_name, name_in}
use Rattle.spec_sheet.specs.Line.LineRead.{line, no_line}
use Rattle.spec_sheet.specs.Sheet.{find_name, is_missing, may_follow, accepted}
use Rattle.spec_sheet.proofs.NameLaws.{follow_by_name}
use Rattle.spec_sheet.proofs.OpLaws.{line_good}
use Rattle.sheet.specs.Lines.{line_of}
use Rattle.sheet.specs.Rows.{turn_of, types_stored, infos_stored}
use Rattle.sheet.specs.declared.line.Line.{Line}
use Rattle.sheet.specs.declared.rows.StoredLine.{StoredLine}
use Rattle.sheet.proofs.LineLaws.{LineIs, was_line, was_no_line}

-- what a line leaves: the answer, and both tables
pub record Stored (x : LineRead) (r : Option StoredLine) (types types' infos infos' : List (List ℕ)) : Type 0 where
  pub answer_is : r ≡ turn_of x
  pub types_are : types' ≡ types_stored x types
  pub infos_are : infos' ≡ infos_stored x infos

-- a line that was refused leaves everything as it was
nothing_stored : (x : LineRead) (types types' infos infos' : List (List ℕ)) → x ≡ no_line → types' ≡ types → infos' ≡ infos → Stored x None types types' infos infos'
unfolding turn_of types_stored infos_stored
nothing_stored x types types' infos infos' e t i = rw e record { answer_is = refl; types_are = t; infos_are = i }

module _ (s : List ℕ) (least : ℕ) (infos : List (List ℕ)) (l : Line) (x : LineRead) (w : LineIs x l) where
  same_test : (r : Bool) → r ≡ may_follow s least infos l.code (name_in s l.info) → may_follow s least infos w.op.code (op_name s w.op) ≡ r
  unfolding info_row
  same_test r m = sym (m ∙ rw (w.code, w.info))

  taken : (r : Bool) → r ≡ may_follow s least infos l.code (name_in s l.info) → accepted s least infos x ≡ pick r (line w.op l.next) no_line
  unfolding accepted
  taken r m = ap (accepted s least infos) w.is_line ∙ rw (same_test r m)

  as_stored : (y : LineRead) (types types' infos' : List (List ℕ)) → y ≡ line w.op l.next → types' ≡ set types l.code l.row
      → infos' ≡ set infos l.code l.info → Stored y (Some (record { code = l.code; next = l.next })) types types' infos infos'
  unfolding turn_of types_stored infos_stored
  as_stored y types types' infos' e t i =
      rw e record { answer_is = rw w.code refl; types_are = t ∙ rw (w.code, w.row); infos_are = i ∙ rw (w.code, w.info) }

module _ (s : List ℕ) (least : ℕ) (types infos : List (List ℕ)) (x : LineRead) where
  pub not_read : (r : Option StoredLine) → r ≡ None → line_of x ≡ None → Stored (accepted s least infos x) r types types infos infos
  unfolding accepted
  not_read r q e = rw q (nothing_stored _ types types infos infos (rw (was_no_line x e)) refl refl)

  -- a line that was read, where it may follow, and where it may not
  module _ {l : Line} (e : line_of x ≡ Some l) (r : Bool) (m : r ≡ may_follow s least infos l.code (name_in s l.info)) (types' infos' : List (List ℕ))
      (t : types' ≡ pick r (set types l.code l.row) types) (i : infos' ≡ pick r (set infos l.code l.info) infos) where
    pub stored : r ≡ true → Stored (accepted s least infos x) (Some (record { code = l.code; next = l.next })) types types' infos infos'
    stored h =
        let w = was_line x e in
        as_stored s least infos l x w (accepted s least infos x) types types' infos' (taken s least infos l x w r m ∙ rw h) (t ∙ rw h) (i ∙ rw h)

    pub refused : r ≡ false → Stored (accepted s least infos x) None types types' infos infos'
    refused h =
        let w = was_line x e in
        nothing_stored (accepted s least infos x) types types' infos infos' (taken s least infos l x w r m ∙ rw h) (t ∙ rw h) (i ∙ rw h)

-- an opcode from the least on may follow where its name is new
pub follows : (s : List ℕ) (least : ℕ) (rows : List (List ℕ)) (code : ℕ) (name own : List ℕ) (r f : Bool) → least ≤ code → name ≡ own
    → r ≡ is_missing (find_name s name 0 (take least rows)) → r ≡ f → f ≡ may_follow s least rows code own
follows s least rows code name own r f h n e g = sym g ∙ e ∙ rw n (sym (follow_by_name s least rows code own h))

-- the opcode of a line that was read is a row of the tables
pub row_inside : (s : List ℕ) (at : ℕ) {l : Line} → line_of (line_at s at) ≡ Some l → l.code < 256
row_inside s at {l} e =
    let i = was_line (line_at s at) e in
    omega (arith, i.code, (line_good s at i.op l.next i.is_line).code)
