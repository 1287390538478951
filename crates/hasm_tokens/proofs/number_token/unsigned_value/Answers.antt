use Rattle.hasm_tokens.proofs.TokenLaws.{unsigned_hex, unsigned_decimal}
use Rattle.hasm_read.proofs.MarkLaws.{prefix_length}
use native.Mathlib.Omega.{arith}
use mathlib.Core.Path.{sym, ◌∙◌}
use Rattle.hasm_tokens.proofs.number_token.unsigned_value.Goals as goal

pub slice_bounds-parse_hex-count : goal.slice_bounds-parse_hex-count
slice_bounds-parse_hex-count c = prefix_length c.args.t.now (sym c.has_hex_prefix.ensures ∙ c.if-has_hex_prefix.true)

pub slice_bounds-parse_hex-start : goal.slice_bounds-parse_hex-start
slice_bounds-parse_hex-start c = omega (arith, prefix_length c.args.t.now (sym c.has_hex_prefix.ensures ∙ c.if-has_hex_prefix.true))

pub returns-then-has_hex_prefix : goal.returns-then-has_hex_prefix
returns-then-has_hex_prefix c = unsigned_hex c.args.t.now (sym c.has_hex_prefix.ensures ∙ c.if-has_hex_prefix.true) c.parse_hex.ensures c.ok_or.ensures.value

pub returns : goal.returns
returns c = unsigned_decimal c.args.t.now (sym c.has_hex_prefix.ensures ∙ c.if-has_hex_prefix.false) c.parse_u32.ensures c.ok_or-2.ensures.value
