use Rattle.std.proofs.Common.{◌≡◌, get_or, eqb, true, arith}
use Rattle.lists.specs.Choice.{either}
use Rattle.lists.proofs.Tests.{by_eqb}
use Rattle.hasm_tokens.proofs.TokenLaws.{register_is}
use Rattle.hasm_tokens.proofs.number_token.register_value.Goals as goal

pub returns-in-114 : goal.returns-in-114
returns-in-114 c =
    let t = c.args.t.now in
    let mark : either (eqb (get_or t 0 0) 114) (eqb (get_or t 0 0) 82) ≡ true =
    by_eqb (get_or t 0 0) 114 (λ e. rw e) (λ n. let e : get_or t 0 0 ≡ 82 = omega (arith, n) in rw e) in
    register_is t mark c.parse_u32.ensures c.ok_or.ensures.value
