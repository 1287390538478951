use Rattle.carry.proofs.carry.carry_translated.Goals as goal

pub returns : goal.returns
returns c = λ g.
    c.carry_body.ensures (record { bytes₁ = _; ends₁ = _; bytes₂ = _; ends₂ = _; contexts = g; translated = c.translate_all.ensures })
