use Rattle.assemble.proofs.ValueLaws.{no_target}
use Rattle.hasm_labels.specs.Sources.{context_of}
use Rattle.assemble.specs.Contexts.{labels_of}
use Rattle.hasm_tokens.proofs.AddressLaws.{offset_answer}
use Rattle.assemble.proofs.token_operand.target_distance.Goals as goal

pub distance_to-requires : goal.distance_to-requires
distance_to-requires c = (c.requires, offset_answer c.args.t.now _ _ c.target_in.ensures c.in-Offset.is)

pub returns-in-Bad : goal.returns-in-Bad
returns-in-Bad c = λ bytes ends. let a = c.args in no_target a.width a.offset _ (c.in-Bad.ensures (labels_of (context_of a.labels.source bytes ends) a.labels.source.text.now))
