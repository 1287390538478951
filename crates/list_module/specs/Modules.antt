-- A module's listing and one function in it: what they answer and write. Assumes nothing.
use Rattle.std.specs.Prelude.{◌≡◌, List, ◌++◌, ℕ, ◌<◌, ltb, length, Result, Ok, Err}
use Rattle.limits.specs.Limits.{line_limit, listing_limit}
use Rattle.lists.specs.Choice.{pick}
use Rattle.lists.specs.Scan as scan
use Rattle.lists.specs.Text.{text}
use Rattle.lists.specs.Write.{Put}
use Rattle.answers.specs.declared.refusal.Refusal.{Refusal}
use Rattle.answers.specs.declared.refusal.Refusal.TheVariants.{LongLine}
use Rattle.spec_body.specs.Decode.{decode_body}
use Rattle.spec_inputs.specs.Context.{Context}
use Rattle.spec_listing.specs.Options.{Options}
use Rattle.spec_listing.specs.Listing.{Listed, list_decoded, append}
use Rattle.spec_listing.specs.Listing.Listed.{listed, not_listed}
use Rattle.spec_listing.specs.Module.{banner, function_name}
use Rattle.list_labels.specs.Collecting.{EntriesFor}
use Rattle.listing.specs.declared.body.Part.{Part}
use Rattle.operation.specs.declared.area.Function.{Function}

-- a function whose body is s and whose name has the id `name`: its banner's 3, then as list_function_in
unfoldable pub titled : Options → Context → ℕ → ℕ → ℕ → List ℕ → Listed
titled o e last id name s =
    let title = banner id (function_name e name) in
    let body = list_decoded o e (text "  ") (decode_body e.types last s) in
    pick (ltb line_limit (length title)) (not_listed (LongLine id)) (append (append (listed (title ++ text "\n") 0) body) (listed (text "\n") 0))

-- a function by where it lies: "20, 18 of its body", then under its banner
unfoldable pub list_located : Options → Context → ℕ → List ℕ → ℕ → Result Function Refusal → Listed
list_located o e last area id (Ok f) = titled o e last id f.name (scan.part area f.start f.size)
list_located o e last area id (Err x) = not_listed x

-- a module's listing x was written at the front, where so many label entries are lent for each function: the buffer was `out` and
-- is `out'`; "18 and 19 of the whole listing come last", so one over 1,048,576 is counted no further, and a function behind it may
-- still be refused
pub data ModuleWritten (lent : ℕ) (x : Listed) (out : List ℕ) (out' : List ℕ) (r : Result Part Refusal) : Type 0 where
  within : (t : List ℕ) (needed : ℕ) (p : Part) → x ≡ listed t needed → r ≡ Ok p → EntriesFor lent needed p.entries → Put out 0 t out' p.next → ModuleWritten lent x out out' r
  over : (t : List ℕ) (needed : ℕ) (p : Part) → x ≡ listed t needed → r ≡ Ok p → listing_limit < p.next → listing_limit < length t → length out' ≡ length out → ModuleWritten lent x out out' r
  ended : (f : Refusal) → x ≡ not_listed f → r ≡ Err f → ModuleWritten lent x out out' r
