use Rattle.std.proofs.Common.{◌∙◌}
use Rattle.strings.proofs.TextWalk.{first_text}
use Rattle.strings.proofs.text_index.TextIndex.find.Goals as goal

pub returns : goal.returns
returns c = let t = c.args.self.strings in c.find_key.ensures ∙ first_text c.args.text.now t.bytes.now t.ends.now
