use Rattle.spec_sheet.specs.Sheet.{has_name}
use Rattle.lists.specs.Scan.{same}
use borrow.Author.Tests.{lt-ltb}
use lib.ListN.{get_or}
use native.Mathlib.Omega.{arith}
use Prim.Native.Nat.{ℕ}
use mathlib.Core.List.{List}
use mathlib.Core.Path.{◌∙◌, ap}
use Rattle.sheet.proofs.rows.has_name.Goals as goal

pub returns-then-size-eq0 : goal.returns-then-size-eq0
unfolding has_name
returns-then-size-eq0 c = rw (c.if-size-eq0.true, has_name)

pub returns : goal.returns
unfolding has_name
returns c =
    let a = c.args in
    let h = lt-ltb 0 (get_or a.row 3 0) (omega (arith, c.if-size-eq0.false)) in
    rw (h, has_name) (c.same_bytes.ensures ∙ ap (λ (l : List ℕ). same l a.name.now) c.part_of-own.ensures)
