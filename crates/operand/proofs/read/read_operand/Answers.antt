use Rattle.std.proofs.Common.{◌≡◌, refl, sym, ◌∙◌, arith, rules, w8, w32, to_z, of_z}
use Rattle.spec_sheet.specs.Types.{kind_of}
use Rattle.spec_sheet.proofs.TypeLaws.{kind_most}
use Rattle.operand.proofs.ReadLaws.{no_operand, kind_read, u8_operand, u16_operand, u32_operand, i8_operand, i32_operand, f64_operand}
use Rattle.operand.proofs.read.read_operand.Goals as goal

pub returns-then-width-eq0 : goal.returns-then-width-eq0
returns-then-width-eq0 c = no_operand _ _ _ c.requires (λ i. (c.type_inv.s i).fits) (sym c.width.ensures ∙ c.if-width-eq0.true) _ c.without_bits.ensures

pub unwrap-r-requires-in-1 : goal.unwrap-r-requires-in-1
unwrap-r-requires-in-1 c = kind_read _ _ 1 2 _ _ c.requires (λ z. c.if-width-eq0.false (c.width.ensures ∙ z)) (sym c.kind.ensures ∙ c.in-1.is) refl _ c.u16_of.ensures

pub unwrap-r-requires-in-2 : goal.unwrap-r-requires-in-2
unwrap-r-requires-in-2 c = kind_read _ _ 2 4 _ _ c.requires (λ z. c.if-width-eq0.false (c.width.ensures ∙ z)) (sym c.kind.ensures ∙ c.in-2.is) refl _ c.u32_of.ensures

pub unwrap-r-requires-in-4 : goal.unwrap-r-requires-in-4
unwrap-r-requires-in-4 c = kind_read _ _ 4 4 _ _ c.requires (λ z. c.if-width-eq0.false (c.width.ensures ∙ z)) (sym c.kind.ensures ∙ c.in-4.is) refl _ c.i32_of.ensures

pub unwrap-r-requires-in_default : goal.unwrap-r-requires-in_default
unwrap-r-requires-in_default c =
    let five : kind_of c.args.code ≡ 5 = omega (arith, c.kind.ensures, kind_most c.args.code) in
    kind_read _ _ 5 8 _ _ c.requires (λ z. c.if-width-eq0.false (c.width.ensures ∙ z)) five refl _ c.f64_of.ensures

pub returns-in-0 : goal.returns-in-0
returns-in-0 c = u8_operand _ _ _ c.requires (λ i. (c.type_inv.s i).fits) (λ z. c.if-width-eq0.false (c.width.ensures ∙ z)) (sym c.kind.ensures ∙ c.in-0.is) _ (sym c.unwrap-r.ensures ∙ c.u8_of.ensures) _ c.without_bits-in-0.ensures

pub returns-in-1 : goal.returns-in-1
returns-in-1 c = u16_operand _ _ _ c.requires (λ i. (c.type_inv.s i).fits) (λ z. c.if-width-eq0.false (c.width.ensures ∙ z)) (sym c.kind.ensures ∙ c.in-1.is) _ (sym c.unwrap-r-in-1.ensures ∙ c.u16_of.ensures) _ c.without_bits-in-1.ensures

pub returns-in-2 : goal.returns-in-2
returns-in-2 c = u32_operand _ _ _ c.requires (λ i. (c.type_inv.s i).fits) (λ z. c.if-width-eq0.false (c.width.ensures ∙ z)) (sym c.kind.ensures ∙ c.in-2.is) _ (sym c.unwrap-r-in-2.ensures ∙ c.u32_of.ensures) _ c.without_bits-in-2.ensures

pub returns-in-3 : goal.returns-in-3
returns-in-3 c =
    let e : to_z w8 (of_z w8 c.unwrap-r-in-3.result.value) ≡ c.unwrap-r-in-3.result.value = search rules in
    i8_operand _ _ _ c.requires (λ i. (c.type_inv.s i).fits) (λ z. c.if-width-eq0.false (c.width.ensures ∙ z)) (sym c.kind.ensures ∙ c.in-3.is) _ (sym c.unwrap-r-in-3.ensures ∙ c.i8_of.ensures) _ (rw e at c.without_bits-in-3.ensures)

pub returns-in-4 : goal.returns-in-4
returns-in-4 c =
    let e : to_z w32 (of_z w32 c.unwrap-r-in-4.result.value) ≡ c.unwrap-r-in-4.result.value = search rules in
    i32_operand _ _ _ c.requires (λ i. (c.type_inv.s i).fits) (λ z. c.if-width-eq0.false (c.width.ensures ∙ z)) (sym c.kind.ensures ∙ c.in-4.is) _ (sym c.unwrap-r-in-4.ensures ∙ c.i32_of.ensures) _ (rw e at c.without_bits-in-4.ensures)

pub returns-in_default : goal.returns-in_default
returns-in_default c =
    let five : kind_of c.args.code ≡ 5 = omega (arith, c.kind.ensures, kind_most c.args.code) in
    f64_operand _ _ _ c.requires (λ i. (c.type_inv.s i).fits) (λ z. c.if-width-eq0.false (c.width.ensures ∙ z)) five _ (sym c.unwrap-r-in_default.ensures ∙ c.f64_of.ensures) _ refl
