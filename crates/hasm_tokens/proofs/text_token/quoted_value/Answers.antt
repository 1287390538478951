use Rattle.hasm_tokens.proofs.TextLaws.{unescape_literal, written_room, written_front, work_meant, work_literal, text_read}
use lib.Seq.{length-take-le}
use mathlib.Core.Path.{sym, ◌∙◌}
use Rattle.hasm_tokens.proofs.text_token.quoted_value.Goals as goal

pub returns-then-all_literal : goal.returns-then-all_literal
returns-then-all_literal c =
    let t = c.args.texts.strings in
    let s = c.args.inside.now in
    let literal = sym c.all_literal.ensures ∙ c.if-all_literal.true in
    record { value = text_read t.bytes.now t.ends.now s (sym (unescape_literal s literal)) c.id_of.ensures; work_after = work_literal _ _ literal }

pub slice_bounds-id_of-end : goal.slice_bounds-id_of-end
slice_bounds-id_of-end c = let a = c.args in written_room a.work.now a.inside.now _ _ c.requires c.put_unescaped-n.ensures

pub slice_bounds-id_of-end-2 : goal.slice_bounds-id_of-end-2
slice_bounds-id_of-end-2 c = let a = c.args in sym (length-take-le _ _ (written_room a.work.now a.inside.now _ _ c.requires c.put_unescaped-n.ensures))

pub returns : goal.returns
returns c =
    let a = c.args in
    let t = a.texts.strings in
    let put = c.put_unescaped-n.ensures in
    record { value = text_read t.bytes.now t.ends.now a.inside.now (written_front a.work.now a.inside.now _ _ c.requires put) c.id_of-2.ensures; work_after = work_meant a.work.now a.inside.now _ _ c.requires put (sym c.all_literal.ensures ∙ c.if-all_literal.false) }
