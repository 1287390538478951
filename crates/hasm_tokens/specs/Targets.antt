-- A jump's target, as the code answers it. Assumes nothing.
use Rattle.lists.specs.Found as search
use Rattle.answers.specs.declared.refusal.OperandFault.TheVariants as fault
use Rattle.spec_hasm.specs.Token as definition
use Rattle.spec_hasm.specs.Token.{found_or}
use Rattle.spec_hasm.specs.Token.Value.{value, refused}
use Rattle.hasm_tokens.specs.declared.address_token.Target.{Target}
use Rattle.hasm_tokens.specs.declared.address_token.Target.TheVariants as target

-- a jump's target, given what the label table has for the token: "the label table serves only `L` alone or digits past u32"
abbrev pub target_or : Target → search.Found → definition.Value
target_or (target.Offset n) label = value n
target_or target.Label label = found_or fault.Address label
target_or target.Bad label = refused fault.Address
