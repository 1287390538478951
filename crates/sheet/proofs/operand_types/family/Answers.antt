use mathlib.Core.Path.{◌≡◌, refl, sym}
use native.Mathlib.Omega.{arith}
use lib.ListN.{get_or-eq_default}
use Rattle.lists.proofs.Tests.{by_eqb}
use Rattle.spec_sheet.specs.Types.{families, family_of}
use Rattle.sheet.specs.Families.{family_number}
use Rattle.sheet.proofs.operand_types.family.Goals as goal

pub returns-in-1-to-2 : goal.returns-in-1-to-2
unfolding family_number family_of
returns-in-1-to-2 c =
    let n = c.args.code in
    by_eqb n 1 (λ e. rw e refl) (λ a. let e : n ≡ 2 = omega (arith, a, c.in-1-to-2) in rw e refl)

pub returns-in-3-to-5 : goal.returns-in-3-to-5
unfolding family_number family_of
returns-in-3-to-5 c =
    let n = c.args.code in
    by_eqb n 3 (λ e. rw e refl) (λ a. by_eqb n 4 (λ e. rw e refl) (λ b. let e : n ≡ 5 = omega (arith, a, b, c.in-3-to-5) in rw e refl))

pub returns-in-6-to-8 : goal.returns-in-6-to-8
unfolding family_number family_of
returns-in-6-to-8 c =
    let n = c.args.code in
    by_eqb n 6 (λ e. rw e refl) (λ a. by_eqb n 7 (λ e. rw e refl) (λ b. let e : n ≡ 8 = omega (arith, a, b, c.in-6-to-8) in rw e refl))

pub returns-in-9-to-10 : goal.returns-in-9-to-10
unfolding family_number family_of
returns-in-9-to-10 c =
    let n = c.args.code in
    by_eqb n 9 (λ e. rw e refl) (λ a. let e : n ≡ 10 = omega (arith, a, c.in-9-to-10) in rw e refl)

pub returns-in-11 : goal.returns-in-11
unfolding family_number family_of
returns-in-11 c = rw c.in-11.is refl

pub returns-in-12 : goal.returns-in-12
unfolding family_number family_of
returns-in-12 c = rw c.in-12.is refl

pub returns-in_default : goal.returns-in_default
unfolding family_number family_of
returns-in_default c = let e : c.args.code ≡ 0 = omega arith in rw e refl

pub returns-in_default-2 : goal.returns-in_default-2
unfolding family_number family_of
returns-in_default-2 c = sym (get_or-eq_default families 0 (omega arith))
