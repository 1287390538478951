use mathlib.Core.Path.{refl}
use Rattle.spec_carry.specs.Carry.{Given}
use Rattle.carry.proofs.AnswerLaws.{is_error}
use Rattle.carry.proofs.CarryEnds.{tables_refused, body_few, ends_few, ends₂_few, sheets_refused, read_zeros, read_ends}
use Rattle.carry.proofs.carry.carry_given.Goals as goal

pub returns-in_err-check_tables : goal.returns-in_err-check_tables
returns-in_err-check_tables c =
    let x = c.args.from in
    let y = c.args.into in
    let g : Given = record { sheet₁ = x.sheet.now; bytes₁ = x.strings.bytes.now; ends₁ = x.strings.ends.now; sheet₂ = y.sheet.now; bytes₂ = y.strings.bytes.now; ends₂ = y.strings.ends.now; body = c.args.body.now } in
    rw (is_error _ c.from_residual.ensures.1) (tables_refused g _ c.check_tables.ensures c.in_err-check_tables.was refl)

pub returns-in_err-last : goal.returns-in_err-last
returns-in_err-last c =
    let x = c.args.from in
    let y = c.args.into in
    let g : Given = record { sheet₁ = x.sheet.now; bytes₁ = x.strings.bytes.now; ends₁ = x.strings.ends.now; sheet₂ = y.sheet.now; bytes₂ = y.strings.bytes.now; ends₂ = y.strings.ends.now; body = c.args.body.now } in
    rw (is_error _ c.from_residual-in_err-last.ensures.1) (sheets_refused g c.check_tables.ensures c.in_ok-check_tables.was _ c.read_sheets.ensures c.in_err-last.was refl)

pub carry_opened-requires-clause-s_len_bound : goal.carry_opened-requires-clause-s_len_bound
carry_opened-requires-clause-s_len_bound c =
    let x = c.args.from in
    let y = c.args.into in
    let g : Given = record { sheet₁ = x.sheet.now; bytes₁ = x.strings.bytes.now; ends₁ = x.strings.ends.now; sheet₂ = y.sheet.now; bytes₂ = y.strings.bytes.now; ends₂ = y.strings.ends.now; body = c.args.body.now } in
    let h = c.check_tables.ensures in
    let e = c.in_ok-check_tables.was in
    (body_few g h e, ends_few g h e, ends₂_few g h e)

pub carry_opened-requires-clause-by_index : goal.carry_opened-requires-clause-by_index
carry_opened-requires-clause-by_index c =
    let x = c.args.from in
    let y = c.args.into in
    let g : Given = record { sheet₁ = x.sheet.now; bytes₁ = x.strings.bytes.now; ends₁ = x.strings.ends.now; sheet₂ = y.sheet.now; bytes₂ = y.strings.bytes.now; ends₂ = y.strings.ends.now; body = c.args.body.now } in
    read_zeros g c.check_tables.ensures c.in_ok-check_tables.was _ c.read_sheets.ensures c.in_ok-last.was

pub returns : goal.returns
returns c =
    let x = c.args.from in
    let y = c.args.into in
    let g : Given = record { sheet₁ = x.sheet.now; bytes₁ = x.strings.bytes.now; ends₁ = x.strings.ends.now; sheet₂ = y.sheet.now; bytes₂ = y.strings.bytes.now; ends₂ = y.strings.ends.now; body = c.args.body.now } in
    read_ends g c.check_tables.ensures c.in_ok-check_tables.was _ c.read_sheets.ensures c.in_ok-last.was c.carry_opened.ensures
