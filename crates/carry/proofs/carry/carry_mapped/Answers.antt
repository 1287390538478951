use mathlib.Core.Path.{refl}
use Rattle.carry.proofs.AnswerLaws.{is_error}
use Rattle.carry.proofs.PassLaws.{started, ends_marked}
use Rattle.carry.proofs.carry.carry_mapped.Goals as goal

pub returns-in_err-n : goal.returns-in_err-n
returns-in_err-n c = λ g.
    rw (is_error _ c.from_residual.ensures.1)
    (ends_marked g c.args.s.now _ c.requires.1 _ (rw c.in_err-n.was at (c.mark_places.ensures g.contexts.from g.contexts.into g.contexts.rows_are)) refl)

pub carry_marked-requires : goal.carry_marked-requires
carry_marked-requires c =
    let g = c.requires.0 in
    (started g c.args.s.now _ c.requires.1 _ (rw c.in_ok-n.was at (c.mark_places.ensures g.contexts.from g.contexts.into g.contexts.rows_are))).ready

pub returns : goal.returns
returns c = λ g.
    let st = started g c.args.s.now _ c.requires.1 _ (rw c.in_ok-n.was at (c.mark_places.ensures g.contexts.from g.contexts.into g.contexts.rows_are)) in
    rw (st.same_from, st.same_into) at (c.carry_marked.ensures st.ready st.counted)
