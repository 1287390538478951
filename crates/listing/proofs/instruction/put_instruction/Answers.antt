use Rattle.spec_listing.specs.Line.{instruction_text}
use Rattle.spec_inputs.specs.Context.{name_of}
use Rattle.lists.proofs.Aheads.{◌and_words◌}
use Rattle.listing.proofs.instruction.put_instruction.Goals as goal

pub returns : goal.returns
unfolding instruction_text name_of
returns c = c.put_offset-a.ensures and_words c.put_name-b.ensures and_words c.put_operands.ensures
