-- The loop over a sheet's opcode lines. Assumes nothing.
use mathlib.Core.Path.{◌≡◌, refl, ap, sym, ◌∙◌}
use mathlib.Core.List.{List, [], ◌∷◌, ◌++◌}
use Prim.Native.Nat.{ℕ, suc, ◌+◌, ◌-◌, ◌≤◌, ◌<◌}
use native.Mathlib.Nat.{sub-zero}
use native.Mathlib.Omega.{arith}
use lib.ListN.{length, length-append}
use Rattle.std.specs.Prelude.{Some, None}
use Rattle.spec_sheet.specs.Line.{Op, LineRead, line_at, type_row, info_row}
use Rattle.spec_sheet.specs.Line.LineRead.{line, no_line}
use Rattle.spec_sheet.specs.Sheet.{accepted, on_line, OpsRead, ops_from, fill, above, type_rows, info_rows, no_type_rows, no_info_rows}
use Rattle.spec_sheet.specs.Sheet.OpsRead.{all_read, fault_after}
use Rattle.spec_sheet.proofs.OpLaws.{line_good}
use Rattle.spec_sheet.proofs.FillLaws.{fill_more, above_more, accepted_is}
use Rattle.sheet.specs.Rows.{turn_of, types_stored, infos_stored}
use Rattle.sheet.specs.declared.rows.StoredLine.{StoredLine}

-- i lines were read, the tables hold them, and those from `at` on complete them
pub record Going (s : List ℕ) (types infos : List (List ℕ)) (from count at least i : ℕ) : Type 0 where
  pub seen : List Op
  pub number : length seen ≡ i
  pub few : i ≤ count
  pub bound : least ≤ 256
  pub least_is : least ≡ above 0 seen
  pub types_are : types ≡ type_rows seen
  pub infos_are : infos ≡ info_rows seen
  pub left : ops_from count s from 0 [] ≡ ops_from (count - i) s at least seen

pub start : (s : List ℕ) (types infos : List (List ℕ)) (from count : ℕ) → types ≡ no_type_rows → infos ≡ no_info_rows → Going s types infos from count from 0 0
unfolding fill above
start s types infos from count e f = record {
  seen = [];
  number = refl;
  few = omega arith;
  bound = omega arith;
  least_is = refl;
  types_are = e;
  infos_are = f;
  left = rw sub-zero;
}

-- from the answer back to the line
record Taken (x : LineRead) (t : StoredLine) : Type 0 where
  op : Op
  is_line : x ≡ line op t.next
  number : op.code ≡ t.code

was_taken : (x : LineRead) {t : StoredLine} → turn_of x ≡ Some t → Taken x t
unfolding turn_of
was_taken (line o a) {t} e =
    let q : ◌≡◌ {A = StoredLine} (record { code = o.code; next = a }) t = cc e in
    record { op = o; is_line = ap (λ (r : StoredLine). line o r.next) q; number = ap (λ (r : StoredLine). r.code) q }
was_taken no_line e = cc e

was_off : (x : LineRead) → turn_of x ≡ None → x ≡ no_line
unfolding turn_of
was_off (line o a) e = cc e
was_off no_line e = refl

-- the tables with one line more
more_types : (x : LineRead) (o : Op) (b : ℕ) (rows rows' : List (List ℕ)) (seen : List Op) → x ≡ line o b → rows ≡ type_rows seen → rows' ≡ types_stored x rows → rows' ≡ type_rows (seen ++ (o ∷ []))
unfolding types_stored
more_types x o b rows rows' seen e r p = p ∙ (rw (e, r) (sym (fill_more type_row no_type_rows seen o)))

more_infos : (x : LineRead) (o : Op) (b : ℕ) (rows rows' : List (List ℕ)) (seen : List Op) → x ≡ line o b → rows ≡ info_rows seen → rows' ≡ infos_stored x rows → rows' ≡ info_rows (seen ++ (o ∷ []))
unfolding infos_stored
more_infos x o b rows rows' seen e r p = p ∙ (rw (e, r) (sym (fill_more info_row no_info_rows seen o)))

module _ (n : ℕ) (s : List ℕ) (at least : ℕ) (seen : List Op) where
  one_off : accepted s least (info_rows seen) (line_at s at) ≡ no_line → ops_from (suc n) s at least seen ≡ fault_after (length seen)
  unfolding ops_from on_line
  one_off e = rw (e, ops_from)

  one_more : (o : Op) (b : ℕ) → accepted s least (info_rows seen) (line_at s at) ≡ line o b → ops_from (suc n) s at least seen ≡ ops_from n s b (suc o.code) (seen ++ (o ∷ []))
  unfolding ops_from on_line
  one_more o b e = rw (e, ops_from)

module _ (s : List ℕ) (types infos : List (List ℕ)) (from count at least i : ℕ) (g : Going s types infos from count at least i) where
  pub ended : count ≤ i → ops_from count s from 0 [] ≡ all_read g.seen at
  unfolding ops_from
  ended h = let e : count - i ≡ 0 = omega arith in g.left ∙ rw e

  module _ (h : i < count) where
    less : count - i ≡ suc (count - (i + 1))
    less = omega arith

    there : accepted s least (info_rows g.seen) (line_at s at) ≡ accepted s least infos (line_at s at)
    there = rw g.infos_are

    pub stopped : turn_of (accepted s least infos (line_at s at)) ≡ None → ops_from count s from 0 [] ≡ fault_after i
    stopped e = g.left ∙ (rw less (one_off (count - (i + 1)) s at least g.seen (there ∙ was_off _ e)) ∙ ap fault_after g.number)

    module _ {t : StoredLine} (e : turn_of (accepted s least infos (line_at s at)) ≡ Some t) where
      taken : Taken (accepted s least infos (line_at s at)) t
      taken = was_taken _ e

      pub small : t.code ≤ 255
      small = omega (arith, taken.number, (line_good s at taken.op t.next (accepted_is s least infos (line_at s at) taken.op t.next taken.is_line)).code)

      pub turn : (types' infos' : List (List ℕ)) → types' ≡ types_stored (accepted s least infos (line_at s at)) types
          → infos' ≡ infos_stored (accepted s least infos (line_at s at)) infos → Going s types' infos' from count t.next (t.code + 1) (i + 1)
      turn types' infos' p q =
          let o = taken.op in
          let w = one_more (count - (i + 1)) s at least g.seen o t.next (there ∙ taken.is_line) in
          let m : suc o.code ≡ t.code + 1 = omega (arith, taken.number) in
          record {
            seen = g.seen ++ (o ∷ []);
            number = length-append g.seen (o ∷ []) ∙ omega (arith, g.number);
            few = omega arith;
            bound = omega (arith, small);
            least_is = sym (above_more 0 g.seen o ∙ m);
            types_are = more_types _ o t.next types types' g.seen taken.is_line g.types_are p;
            infos_are = more_infos _ o t.next infos infos' g.seen taken.is_line g.infos_are q;
            left = g.left ∙ (rw less (w ∙ ap (λ (k : ℕ). ops_from (count - (i + 1)) s t.next k (g.seen ++ (o ∷ []))) m));
          }

-- a fault and a whole reading are not the same
pub not_all : (x : OpsRead) (n : ℕ) (os : List Op) (b : ℕ) {P : Type 0} → x ≡ fault_after n → x ≡ all_read os b → P
not_all x n os b e f = let q : fault_after n ≡ all_read os b = sym e ∙ f in cc q

-- what the tables hold at the end
pub tables : (x : OpsRead) (types infos : List (List ℕ)) (seen os : List Op) (at b : ℕ) → x ≡ all_read seen at → types ≡ type_rows seen → infos ≡ info_rows seen → x ≡ all_read os b
    → (types ≡ type_rows os) × (infos ≡ info_rows os)
tables x types infos seen os at b e t i f =
    let q : seen ≡ os = cc (sym e ∙ f) in
    (t ∙ ap (λ (l : List Op). type_rows l) q, i ∙ ap (λ (l : List Op). info_rows l) q)
