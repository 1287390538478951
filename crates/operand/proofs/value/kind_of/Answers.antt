use Rattle.operand.specs.Value.{kind_of_value}
use mathlib.Core.Path.{sym, ap}
use Rattle.operand.proofs.value.kind_of.Goals as goal

pub returns-in-U8 : goal.returns-in-U8
unfolding kind_of_value
returns-in-U8 c = sym (ap kind_of_value c.in-U8.is)

pub returns-in-U16 : goal.returns-in-U16
unfolding kind_of_value
returns-in-U16 c = sym (ap kind_of_value c.in-U16.is)

pub returns-in-U32 : goal.returns-in-U32
unfolding kind_of_value
returns-in-U32 c = sym (ap kind_of_value c.in-U32.is)

pub returns-in-I8 : goal.returns-in-I8
unfolding kind_of_value
returns-in-I8 c = sym (ap kind_of_value c.in-I8.is)

pub returns-in-I32 : goal.returns-in-I32
unfolding kind_of_value
returns-in-I32 c = sym (ap kind_of_value c.in-I32.is)

pub returns-in-F64 : goal.returns-in-F64
unfolding kind_of_value
returns-in-F64 c = sym (ap kind_of_value c.in-F64.is)
