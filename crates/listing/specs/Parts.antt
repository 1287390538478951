-- What the listing's inner functions are asked and answer. Assumes nothing.
use Rattle.std.specs.Prelude.{◌≡◌, Bool, false, List, [], ℕ, get_or, Result, Ok, Err}
use Rattle.lists.specs.Choice.{pick, both}
use Rattle.lists.specs.Found.{Found}
use Rattle.lists.specs.Found.Found.{found, missing}
use Rattle.lists.specs.Write.{Put}
use Rattle.spec_body.specs.Decode.{Decoded, decode_body}
use Rattle.spec_body.specs.Decode.Decoded.{decoded, not_decoded}
use Rattle.spec_listing.specs.Options.{Options}
use Rattle.spec_listing.specs.Listing.{label_line}
use Rattle.answers.specs.declared.refusal.Refusal.{Refusal}
use Rattle.answers.specs.declared.refusal.Refusal.TheVariants.{LongLine}
use Rattle.listing.specs.declared.options.Options as declared

-- a body that decodes, and its records
pub record Decodes (types : List (List ℕ)) (last : ℕ) (s : List ℕ) : Type 0 where
  pub records : List (List ℕ)
  pub are : decode_body types last s ≡ decoded records

unfoldable pub records_of : Decoded → List (List ℕ)
records_of (decoded rs) = rs
records_of (not_decoded x) = []

-- a label's line, by the flags
unfoldable pub flagged_text : Bool → List Bool → List ℕ → ℕ → List ℕ
flagged_text labels flags indent at = pick (both labels (get_or flags at false)) (label_line indent at) []

-- the options that a function is given one by one
abbrev pub options_from : Bool → Bool → Bool → Options
options_from offsets labels texts = record { show_offsets = offsets; show_labels = labels; resolve_strings = texts }

-- and as one
abbrev pub options_of : declared.Options → Options
options_of o = options_from o.show_offsets o.show_labels o.resolve_strings

-- lines whose text is t, unless one is too long, were written at `from`: the buffer was `out` and is `out'`
pub data Lined (t : List ℕ) (long : Found) (out : List ℕ) («from» : ℕ) (out' : List ℕ) (r : Result ℕ Refusal) : Type 0 where
  all : (k : ℕ) → long ≡ missing → r ≡ Ok k → Put out «from» t out' k → Lined t long out «from» out' r
  over : (at : ℕ) → long ≡ found at → r ≡ Err (LongLine at) → Lined t long out «from» out' r

-- how long a block is that lines are gathered in, and where the last line in it starts at most
abbrev pub block_size : ℕ
block_size = 6144

abbrev pub line_start : ℕ
line_start = 2000
