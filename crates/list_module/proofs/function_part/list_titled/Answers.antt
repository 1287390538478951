use Rattle.std.proofs.lemmas.Result.{err_from_is_err_and}
use Rattle.std.specs.Prelude.{Err}
use mathlib.Core.Path.{ap, ◌∙◌}
use native.Mathlib.Omega.{arith}
use Rattle.listing.specs.Parts.{options_of}
use Rattle.listing.specs.Listers.{context_by}
use Rattle.list_module.proofs.ModuleLaws.{titled_long, titled_listed, titled_stopped}
use Rattle.list_module.proofs.function_part.list_titled.Goals as goal

pub returns-then-a-from-gt-LINE_LIMIT : goal.returns-then-a-from-gt-LINE_LIMIT
returns-then-a-from-gt-LINE_LIMIT c =
    let a = c.args in
    let l = a.lister.now in
    titled_long (options_of l.options) (context_by l) a.room.lent l.last a.id a.name a.s.now c.requires.1 c.put_title-a.ensures c.if-a-from-gt-LINE_LIMIT.true

pub returns-in_err-part : goal.returns-in_err-part
returns-in_err-part c =
    let a = c.args in
    let l = a.lister.now in
    let p = err_from_is_err_and c.from_residual.result c.from_residual.ensures.1 in
    rw (p.1, p.2) (titled_stopped (options_of l.options) (context_by l) a.room.lent l.last a.id a.name a.s.now c.requires.1 c.put_title-a.ensures c.if-a-from-gt-LINE_LIMIT.false c.put_byte-b.ensures _ (rw c.in_err-part.was at c.list_flags.ensures))

pub returns : goal.returns
returns c =
    let a = c.args in
    let l = a.lister.now in
    titled_listed (options_of l.options) (context_by l) a.room.lent l.last a.id a.name a.s.now c.requires.1 c.put_title-a.ensures c.if-a-from-gt-LINE_LIMIT.false c.put_byte-b.ensures (rw c.in_ok-part.was at c.list_flags.ensures) c.put_byte.ensures
