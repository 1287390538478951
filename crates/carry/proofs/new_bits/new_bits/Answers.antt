use mathlib.Core.Path.{ap, sym, ◌∙◌}
use Rattle.carry.proofs.AnswerLaws.{is_error}
use Rattle.carry.proofs.PlanLaws.{addr_width, when_addr}
use Rattle.carry.proofs.CarriedLaws.{action_moved}
use Rattle.carry.specs.declared.plans.Plan.{Plan}
use Rattle.carry.proofs.new_bits.new_bits.Goals as goal

pub address_into-requires : goal.address_into-requires
address_into-requires c =
    let p = c.requires in
    let g = p.0 in
    let f = when_addr g.c g.d (sym (ap (λ (p : Plan). p.action) g.is) ∙ c.in-Addr.is) in
    (p.1, p.2, rw (c.from.ensures ∙ ap (λ (p : Plan). p.old_width) g.is) (addr_width g.c f.0), rw (c.from-width.ensures ∙ ap (λ (p : Plan). p.new_width) g.is) (addr_width g.d f.1), rw c.from.ensures p.3)

pub returns-in-Keeps : goal.returns-in-Keeps
returns-in-Keeps c = λ x i q a d m here e.
    rw c.in-Keeps.is at (action_moved x i c.args.place.old q c.args.place.new a d c.args.bits _ _ m here _ (ap (λ (p : Plan). p.action) e) (rw (ap (λ (p : Plan). p.old_width) e) at c.requires.3))

pub returns-in_ok-number_into-in-Number : goal.returns-in_ok-number_into-in-Number
returns-in_ok-number_into-in-Number c = λ x i q a d m here e.
    rw (rw (c.from-width.ensures ∙ ap (λ (p : Plan). p.new_width) e) at (sym c.number_into.ensures ∙ c.in_ok-number_into-in-Number.was)) at (rw c.in-Number.is at (action_moved x i c.args.place.old q c.args.place.new a d c.args.bits _ _ m here _ (ap (λ (p : Plan). p.action) e) (rw (ap (λ (p : Plan). p.old_width) e) at c.requires.3)))

pub returns-in_err-number_into-in-Number : goal.returns-in_err-number_into-in-Number
returns-in_err-number_into-in-Number c = λ x i q a d m here e.
    rw (is_error _ c.from_residual.ensures.1)
    (rw (rw (c.from-width.ensures ∙ ap (λ (p : Plan). p.new_width) e) at (sym c.number_into.ensures ∙ c.in_err-number_into-in-Number.was)) at (rw c.in-Number.is at (action_moved x i c.args.place.old q c.args.place.new a d c.args.bits _ _ m here _ (ap (λ (p : Plan). p.action) e) (rw (ap (λ (p : Plan). p.old_width) e) at c.requires.3))))

pub returns-in_ok-id_into-in-String : goal.returns-in_ok-id_into-in-String
returns-in_ok-id_into-in-String c = λ x i q a d m here e.
    rw (rw (c.from-width.ensures ∙ ap (λ (p : Plan). p.new_width) e) at (sym c.id_into.ensures ∙ c.in_ok-id_into-in-String.was)) at (rw c.in-String.is at (action_moved x i c.args.place.old q c.args.place.new a d c.args.bits _ _ m here _ (ap (λ (p : Plan). p.action) e) (rw (ap (λ (p : Plan). p.old_width) e) at c.requires.3)))

pub returns-in_err-id_into-in-String : goal.returns-in_err-id_into-in-String
returns-in_err-id_into-in-String c = λ x i q a d m here e.
    rw (is_error _ c.from_residual-in_err-id_into-in-String.ensures.1)
    (rw (rw (c.from-width.ensures ∙ ap (λ (p : Plan). p.new_width) e) at (sym c.id_into.ensures ∙ c.in_err-id_into-in-String.was)) at (rw c.in-String.is at (action_moved x i c.args.place.old q c.args.place.new a d c.args.bits _ _ m here _ (ap (λ (p : Plan). p.action) e) (rw (ap (λ (p : Plan). p.old_width) e) at c.requires.3))))

pub returns-in-Addr : goal.returns-in-Addr
returns-in-Addr c = λ x i q a d m here e.
    rw (c.address_into.ensures, c.from-width.ensures ∙ ap (λ (p : Plan). p.new_width) e, c.from.ensures ∙ ap (λ (p : Plan). p.old_width) e) (rw c.in-Addr.is at (action_moved x i c.args.place.old q c.args.place.new a d c.args.bits _ _ m here _ (ap (λ (p : Plan). p.action) e) (rw (ap (λ (p : Plan). p.old_width) e) at c.requires.3)))

pub returns-in-OtherFamily : goal.returns-in-OtherFamily
returns-in-OtherFamily c = λ x i q a d m here e.
    rw c.in-OtherFamily.is at (action_moved x i c.args.place.old q c.args.place.new a d c.args.bits _ _ m here _ (ap (λ (p : Plan). p.action) e) (rw (ap (λ (p : Plan). p.old_width) e) at c.requires.3))
