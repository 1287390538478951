use mathlib.Core.Path.{sym, ◌∙◌}
use borrow.Author.Tests.{ne_eqb}
use Rattle.encode.proofs.CanonicalLaws.{no_type, other_kind, same_kind}
use Rattle.encode.proofs.canonical.canonical_pair.Goals as goal

pub returns-then-code-gt12 : goal.returns-then-code-gt12
returns-then-code-gt12 c =
    let a = c.args in
    sym (no_type a.codes.now c.requires a.code a.kind a.bits c.if-code-gt12.true)

pub returns-then-kind-codes : goal.returns-then-kind-codes
returns-then-kind-codes c =
    let a = c.args in
    sym (same_kind a.codes.now c.requires a.code a.kind a.bits c.if-code-gt12.false c.if-kind-codes.true)

pub returns-else-kind-codes : goal.returns-else-kind-codes
returns-else-kind-codes c =
    let a = c.args in
    ne_eqb a.kind _ c.if-kind-codes.false ∙ sym (other_kind a.codes.now c.requires a.code a.kind a.bits c.if-code-gt12.false c.if-kind-codes.false)
