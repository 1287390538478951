-- What a listing is made by, as the definitions have it. Assumes nothing.
use Rattle.std.specs.Prelude.{List, ℕ}
use Rattle.spec_body.specs.Decode.{Decoded, decode_body}
use Rattle.spec_inputs.specs.Context.{Context, context_from}
use Rattle.listing.specs.declared.lister.Lister.{Lister}

-- the sheet and the string table
abbrev pub context_by : Lister → Context
context_by l = context_from l.tables.text.now l.tables.types.now l.tables.ops.now l.strings.bytes.now l.strings.ends.now

-- a body decoded under the sheet
abbrev pub decoded_by : Lister → List ℕ → Decoded
decoded_by l s = decode_body l.tables.types.now l.last s
