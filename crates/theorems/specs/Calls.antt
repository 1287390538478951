-- The calls whose space can be asked for (document 02 (b)). Assumes nothing.
use Rattle.std.specs.Prelude.{List, ℕ}
use Rattle.answers.specs.Outcome.{Outcome}
use Rattle.answers.specs.Space.{OutputUnit}
use Rattle.answers.specs.Space.OutputUnit.{in_bytes, in_records}
use Rattle.spec_body.specs.Operation.{decode, decode_function}
use Rattle.spec_listing.specs.Options.{Options}
use Rattle.spec_listing.specs.Module.{Area}
use Rattle.spec_listing.specs.Operation.{list, list_function, list_module}
use Rattle.spec_hasm.specs.Operation.{assemble}
use Rattle.spec_carry.specs.Carry.{Given, carry}

-- "Before an assembling, decoding, listing or carry call": an operation with its inputs and options
pub data Call : Type 0 where
  decoding : (sheet body : List ℕ) → Call
  decoding_function : (sheet functions area : List ℕ) (base id : ℕ) → Call
  listing : (o : Options) (sheet bytes ends body : List ℕ) → Call
  listing_function : (o : Options) (sheet bytes ends : List ℕ) (a : Area) (id : ℕ) → Call
  listing_module : (o : Options) (sheet bytes ends : List ℕ) (a : Area) → Call
  assembling : (sheet bytes ends text : List ℕ) → Call
  carrying : Given → Call

unfoldable pub outcome_of : Call → Outcome
outcome_of (decoding sheet body) = decode sheet body
outcome_of (decoding_function sheet functions area base id) = decode_function sheet functions area base id
outcome_of (listing o sheet bytes ends body) = list o sheet bytes ends body
outcome_of (listing_function o sheet bytes ends a id) = list_function o sheet bytes ends a id
outcome_of (listing_module o sheet bytes ends a) = list_module o sheet bytes ends a
outcome_of (assembling sheet bytes ends text) = assemble sheet bytes ends text
outcome_of (carrying g) = carry g

-- "length counts the bytes written, or the records when decoding"
unfoldable pub unit_of : Call → OutputUnit
unit_of (decoding sheet body) = in_records
unit_of (decoding_function sheet functions area base id) = in_records
unit_of (listing o sheet bytes ends body) = in_bytes
unit_of (listing_function o sheet bytes ends a id) = in_bytes
unit_of (listing_module o sheet bytes ends a) = in_bytes
unit_of (assembling sheet bytes ends text) = in_bytes
unit_of (carrying g) = in_bytes
