-- From the answer of a line's part back to what was read. Assumes nothing.
use mathlib.Core.Path.{◌≡◌, refl, ap, sym}
use mathlib.Core.List.{List, [], ◌∷◌}
use Prim.Native.Nat.{ℕ}
use lib.ListN.{length}
use Rattle.std.specs.Prelude.{Option, Some, None}
use Rattle.spec_sheet.specs.Scan.{literal_at, line_end, after}
use Rattle.spec_sheet.specs.Scan.Step.{next}
use Rattle.spec_sheet.specs.Line.{Op, TypesRead, HeadRead, LineRead, line_types, type_row, info_row}
use Rattle.spec_sheet.specs.Line.TypesRead.{types, no_types}
use Rattle.spec_sheet.specs.Line.HeadRead.{head, no_head}
use Rattle.spec_sheet.specs.Line.LineRead.{line, no_line}
use Rattle.sheet.specs.Lines.{eight, types_of, head_of, line_of}
use Rattle.sheet.specs.declared.line.Types.{Types}
use Rattle.sheet.specs.declared.line.Head.{Head}
use Rattle.sheet.specs.declared.line.Line.{Line}

-- a head
pub was_head : (x : HeadRead) {h : Head} → head_of x ≡ Some h → x ≡ head h.code h.start h.size h.next
unfolding head_of
was_head (head a b c d) {h} e =
    let q : ◌≡◌ {A = Head} (record { code = a; start = b; size = c; next = d }) h = cc e in
    ap (λ (t : Head). head t.code t.start t.size t.next) q
was_head no_head e = cc e

pub was_no_head : (x : HeadRead) → head_of x ≡ None → x ≡ no_head
unfolding head_of
was_no_head (head a b c d) e = cc e
was_no_head no_head e = refl

-- operand types
pub record TypesAre (x : TypesRead) (t : Types) : Type 0 where
  pub codes : List ℕ
  pub is_types : x ≡ types codes t.next
  pub row : t.row ≡ eight codes
  pub count : t.count ≡ length codes

pub was_types : (x : TypesRead) {t : Types} → types_of x ≡ Some t → TypesAre x t
unfolding types_of
was_types (types cs at) {t} e =
    let q : ◌≡◌ {A = Types} (record { row = eight cs; count = length cs; next = at }) t = cc e in
    record {
      codes = cs;
      is_types = ap (λ (r : Types). types cs r.next) q;
      row = sym (ap (λ (r : Types). r.row) q);
      count = sym (ap (λ (r : Types). r.count) q);
    }
was_types no_types e = cc e

pub was_no_types : (x : TypesRead) → types_of x ≡ None → x ≡ no_types
unfolding types_of
was_no_types (types cs at) e = cc e
was_no_types no_types e = refl

-- types with a line end behind them
pub line_whole : (s : List ℕ) (code start size jump : ℕ) (x : TypesRead) (t : Types) {v b : ℕ} → TypesAre x t → literal_at line_end s t.next ≡ next v b
    → ◌≡◌ {A = Option Line} (Some (record { code = code; row = t.row; info = t.count ∷ jump ∷ start ∷ size ∷ []; next = b })) (line_of (line_types s code start size jump x))
unfolding line_types line_of after type_row info_row
line_whole s code start size jump x t w e = rw (w.is_types, e, w.row, w.count) refl

-- a whole line: the opcode that was read
pub record LineIs (x : LineRead) (l : Line) : Type 0 where
  pub op : Op
  pub is_line : x ≡ line op l.next
  pub code : l.code ≡ op.code
  pub row : l.row ≡ type_row op
  pub info : l.info ≡ info_row op

pub was_line : (x : LineRead) {l : Line} → line_of x ≡ Some l → LineIs x l
unfolding line_of
was_line (line o at) {l} e =
    let q : ◌≡◌ {A = Line} (record { code = o.code; row = type_row o; info = info_row o; next = at }) l = cc e in
    record {
      op = o;
      is_line = ap (λ (r : Line). line o r.next) q;
      code = sym (ap (λ (r : Line). r.code) q);
      row = sym (ap (λ (r : Line). r.row) q);
      info = sym (ap (λ (r : Line). r.info) q);
    }
was_line no_line e = cc e

pub was_no_line : (x : LineRead) → line_of x ≡ None → x ≡ no_line
unfolding line_of
was_no_line (line o at) e = cc e
was_no_line no_line e = refl
