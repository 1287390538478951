-- The listing of a body: disassemble_function of disasm.rs. Assumes nothing.
use Rattle.std.specs.Prelude.{List, [], ◌∷◌, ◌++◌, ℕ, max, ltb, length}
use Rattle.lists.specs.Choice.{pick, both}
use Rattle.lists.specs.Text.{text}
use Rattle.lists.specs.Found.{Found}
use Rattle.lists.specs.Found.Found.{found, missing}
use Rattle.spec_numbers.specs.Print.{decimal}
use Rattle.limits.specs.Limits.{line_limit}
use Rattle.answers.specs.declared.refusal.Refusal.{Refusal}
use Rattle.answers.specs.declared.refusal.Refusal.TheVariants.{LongLine}
use Rattle.spec_body.specs.Decode.{Decoded}
use Rattle.spec_body.specs.Decode.Decoded.{decoded, not_decoded}
use Rattle.spec_inputs.specs.Context.{Context}
use Rattle.spec_listing.specs.Options.{Options}
use Rattle.spec_listing.specs.Line.{instruction_text}
use Rattle.spec_body.specs.Record.{offset_of}
use Rattle.spec_listing.specs.Labels.{label_offsets, among, different}

-- a label's line, and the line of the instruction; `indent` is what the module listing puts in front of each
unfoldable pub label_line : List ℕ → ℕ → List ℕ
label_line indent at = indent ++ text "L" ++ decimal at ++ text ":\n"

-- "only those where an instruction starts are printed"
unfoldable pub label_text : Options → List ℕ → List ℕ → ℕ → List ℕ
label_text o labels indent at = pick (both o.show_labels (among at labels)) (label_line indent at) []

unfoldable pub instruction_line : Options → Context → List ℕ → List ℕ → List ℕ
instruction_line o e indent r = indent ++ instruction_text o.show_offsets o.resolve_strings e r

-- all lines, where `labels` are the offsets that have a label
unfoldable pub listed_text : Options → Context → List ℕ → List ℕ → List (List ℕ) → List ℕ
listed_text o e labels indent [] = []
listed_text o e labels indent (r ∷ rs) =
    label_text o labels indent (offset_of r) ++ instruction_line o e indent r ++ text "\n" ++ listed_text o e labels indent rs

-- the offset of the first instruction whose line is over the limit; a label's line never is
unfoldable pub long_line : Options → Context → List ℕ → List (List ℕ) → Found
long_line o e indent [] = missing
long_line o e indent (r ∷ rs) =
    let rest = long_line o e indent rs in
    pick (ltb line_limit (length (instruction_line o e indent r))) (found (offset_of r)) rest

-- a listing before its length and the lent space are looked at: its text and the label entries it needs, or a refusal
pub data Listed : Type 0 where
  listed : List ℕ → ℕ → Listed
  not_listed : Refusal → Listed

-- "Listing needs one for each different offset of `collect_label_offsets`, none with labels off"
unfoldable pub list_entries : Options → Context → List (List ℕ) → ℕ
list_entries o e rs = pick o.show_labels (different (label_offsets e rs)) 0

unfoldable pub unless_long : Found → Listed → Listed
unless_long (found at) rest = not_listed (LongLine at)
unless_long missing rest = rest

-- "Listing: decoding, then 3"
unfoldable pub list_decoded : Options → Context → List ℕ → Decoded → Listed
list_decoded o e indent (decoded rs) =
    unless_long (long_line o e indent rs) (listed (listed_text o e (label_offsets e rs) indent rs) (list_entries o e rs))
list_decoded o e indent (not_decoded x) = not_listed x

-- one listing behind another: label entries are used for one at a time
unfoldable pub append : Listed → Listed → Listed
append (not_listed x) next = not_listed x
append (listed t k) (listed u m) = listed (t ++ u) (max k m)
append (listed t k) (not_listed x) = not_listed x
