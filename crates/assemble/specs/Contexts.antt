-- The context and the labels that an operand is read under. Assumes nothing.
use Rattle.std.specs.Prelude.{List, ℕ}
use Rattle.lists.specs.Found.{Found}
use Rattle.spec_inputs.specs.Context.{Context, context_from}
use Rattle.spec_hasm.specs.Assemble.{Assembled, codes_of, labels_from, label_offset, bytes_from}
use Rattle.sheet.specs.declared.tables.Tables.{Tables}
use Rattle.hasm_labels.specs.Sources.{context_of}
use Rattle.assemble.specs.declared.context.Context as lent

-- the definition's context of a sheet's tables, with any strings
abbrev pub tables_context : Tables → List ℕ → List ℕ → Context
tables_context t bytes ends = context_from t.text.now t.types.now t.ops.now bytes ends

-- the offset of a label of a text: "A label is held by its text part and offset"
abbrev pub labels_of : Context → List ℕ → List ℕ → Found
labels_of e text = label_offset (labels_from e 0 (codes_of e text))

-- the instructions of a text as bytes
abbrev pub bytes_of : Context → List ℕ → Assembled
bytes_of e text = bytes_from e (labels_of e text) 0 (codes_of e text)

-- what the code lends: its text, the definition's context, the labels, and the instructions
abbrev pub text_in : lent.Context → List ℕ
text_in x = x.labels.source.text.now

abbrev pub under : lent.Context → Context
under x = context_of x.labels.source x.texts.strings.bytes.now x.texts.strings.ends.now

abbrev pub labels_under : lent.Context → List ℕ → Found
labels_under x = labels_of (under x) (text_in x)
