use mathlib.Core.Path.{sym}
use borrow.Author.Tests.{lt-ltb, le-ltb}
use Rattle.spec_sheet.specs.Sheet.{is_missing}
use Rattle.spec_carry.specs.Cases.{unless_case}
use Rattle.spec_carry.specs.Passes.{or_zero}
use Rattle.carry.specs.Inputs.{on_inputs}
use Rattle.carry.proofs.AnswerLaws.{was_found, was_missing}
use Rattle.carry.proofs.inputs.check_tables.Goals as goal

pub returns-then-body-gt-BODY_LIMIT : goal.returns-then-body-gt-BODY_LIMIT
unfolding unless_case on_inputs is_missing or_zero
returns-then-body-gt-BODY_LIMIT c = λ rest. rw (lt-ltb _ _ c.if-body-gt-BODY_LIMIT.true)

pub returns-then-too_large : goal.returns-then-too_large
unfolding unless_case on_inputs is_missing or_zero
returns-then-too_large c = λ rest. rw (le-ltb _ _ c.if-body-gt-BODY_LIMIT.false, sym c.if-too_large.ensures)

pub returns-then-too_large-2 : goal.returns-then-too_large-2
unfolding unless_case on_inputs is_missing or_zero
returns-then-too_large-2 c = λ rest. rw (le-ltb _ _ c.if-body-gt-BODY_LIMIT.false, sym c.if-too_large.ensures, sym c.if-too_large-2.ensures)

pub returns-in-Some : goal.returns-in-Some
unfolding unless_case on_inputs is_missing or_zero
returns-in-Some c = λ rest.
    rw (le-ltb _ _ c.if-body-gt-BODY_LIMIT.false, sym c.if-too_large.ensures, sym c.if-too_large-2.ensures, was_found _ _ c.in-Some.ensures)

pub returns-in-Some-find_fault : goal.returns-in-Some-find_fault
unfolding unless_case on_inputs is_missing or_zero
returns-in-Some-find_fault c = λ rest.
    rw (le-ltb _ _ c.if-body-gt-BODY_LIMIT.false, sym c.if-too_large.ensures, sym c.if-too_large-2.ensures, was_missing _ c.in_default.ensures, was_found _ _ c.in-Some-find_fault.ensures)

pub returns : goal.returns
unfolding unless_case on_inputs is_missing or_zero
returns c = λ rest.
    rw (le-ltb _ _ c.if-body-gt-BODY_LIMIT.false, sym c.if-too_large.ensures, sym c.if-too_large-2.ensures, was_missing _ c.in_default.ensures, was_missing _ c.in_default-find_fault.ensures)
