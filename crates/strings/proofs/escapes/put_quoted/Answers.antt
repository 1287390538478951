use Rattle.lists.proofs.Writes.{◌then◌}
use Rattle.spec_strings.specs.Escape.{quoted}
use Rattle.strings.proofs.escapes.put_quoted.Goals as goal

pub returns : goal.returns
unfolding quoted
returns c =
    c.put_byte-a.ensures then c.put_escaped_text-b.ensures then c.put_byte.ensures
