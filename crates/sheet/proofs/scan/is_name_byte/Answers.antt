use mathlib.Core.Path.{sym, ◌∙◌}
use Rattle.sheet.proofs.ByteClasses.{name_class}
use Rattle.sheet.proofs.scan.is_name_byte.Goals as goal

pub returns-then-is_ascii_alphanumeric : goal.returns-then-is_ascii_alphanumeric
returns-then-is_ascii_alphanumeric c = c.if-is_ascii_alphanumeric.true ∙ sym (name_class c.args.b ∙ rw (sym c.is_ascii_alphanumeric.ensures.value ∙ c.if-is_ascii_alphanumeric.true))

pub returns-else-is_ascii_alphanumeric : goal.returns-else-is_ascii_alphanumeric
returns-else-is_ascii_alphanumeric c = sym (name_class c.args.b ∙ rw (sym c.is_ascii_alphanumeric.ensures.value ∙ c.if-is_ascii_alphanumeric.false))
