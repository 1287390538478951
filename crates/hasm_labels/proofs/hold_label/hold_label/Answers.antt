use mathlib.Core.Path.{refl, ap, sym, ◌∙◌}
use mathlib.Core.List.{List}
use Prim.Native.Nat.{ℕ}
use Rattle.lists.specs.Scan.{same}
use Rattle.hasm_labels.proofs.HoldLaws.{held_none, part_same, part_other}
use Rattle.hasm_labels.proofs.hold_label.hold_label.Goals as goal
use Rattle.hasm_labels.proofs.hold_label.hold_label.Goals.{then-same_bytes, else-same_bytes}

pub returns-in_default : goal.returns-in_default
returns-in_default c = let a = c.args in held_none a.text.now a.t.now a.labels.now a.p c.in_default.is

pub returns : goal.returns
returns c =
    let a = c.args in
    let u = rw c.part_of-s.ensures at c.keep_label-kept.ensures in
    let e = ap (λ (s : List ℕ). same s a.t.now) (sym c.part_of-s.ensures) ∙ sym c.same_bytes.ensures in
    elim c.if-same_bytes.branch [
      | then-same_bytes w ↦ part_same a.text.now a.t.now a.labels.now _ a.p _ c.in-Some.part c.in-Some.is u.0 u.1 refl (e ∙ w.if-same_bytes.true) w.place-is refl
      | else-same_bytes w ↦ part_other a.text.now a.t.now a.labels.now _ a.p _ c.in-Some.part c.in-Some.is u.0 u.1 refl (e ∙ w.if-same_bytes.false) w.place-is refl
    ]
