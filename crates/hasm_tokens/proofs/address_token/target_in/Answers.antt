use Rattle.std.proofs.Common.{sym, ◌∙◌, arith}
use Rattle.hasm_tokens.proofs.AddressLaws.{target_none, target_not, target_label, target_offset}
use Rattle.hasm_tokens.proofs.address_token.target_in.Goals as goal

pub returns-in_default : goal.returns-in_default
returns-in_default c = λ labels. target_none c.args.t.now labels (omega arith)

pub returns-in_default-2 : goal.returns-in_default-2
returns-in_default-2 c = λ labels. target_not c.args.t.now labels (λ e. omega (arith, e))

pub returns-in-Some : goal.returns-in-Some
returns-in-Some c = λ labels. target_offset c.args.t.now labels _ (omega arith) (sym c.parse_u32.ensures ∙ c.in-Some.is)

pub returns-in-None : goal.returns-in-None
returns-in-None c = λ labels. target_label c.args.t.now labels (omega arith) (sym c.parse_u32.ensures ∙ c.in-None.is)
