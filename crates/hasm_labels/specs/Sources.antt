-- What the names of a text are read under. Assumes nothing.
use Rattle.std.specs.Prelude.{List, ℕ}
use Rattle.spec_inputs.specs.Context.{Context, context_from}
use Rattle.hasm_labels.specs.declared.source.Source.{Source}

-- a source's sheet and tables, beside any string table
abbrev pub context_of : Source → List ℕ → List ℕ → Context
context_of s bytes ends = context_from s.tables.text.now s.tables.types.now s.tables.ops.now bytes ends
