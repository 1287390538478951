-- The listing of a whole module: disassemble_all of disasm.rs (document 01, 'Around the core'). Assumes nothing.
use Rattle.std.specs.Prelude.{List, [], ◌++◌, ℕ, zero, suc, eqb, ltb, length}
use Rattle.lists.specs.Choice.{pick}
use Rattle.lists.specs.Text.{text}
use Rattle.answers.specs.declared.refusal.Refusal.TheVariants.{LongLine, TooLarge, NoFunction}
use Rattle.spec_numbers.specs.Print.{decimal}
use Rattle.spec_strings.specs.Escape.{quoted}
use Rattle.spec_body.specs.Decode.{decode_body}
use Rattle.spec_body.specs.Function.{in_area, function_count, function_body, function_size, function_name_id}
use Rattle.limits.specs.Limits.{body_limit, line_limit}
use Rattle.spec_inputs.specs.Context.{Context, has_text, text_at}
use Rattle.spec_listing.specs.Options.{Options}
use Rattle.spec_listing.specs.Listing.{Listed, list_decoded, append}
use Rattle.spec_listing.specs.Listing.Listed.{listed, not_listed}

-- the functions of an area: u32 triples, the area's bytes, and the offset that the area's first byte has
pub record Area : Type 0 where
  pub functions : List ℕ
  pub bytes : List ℕ
  pub base : ℕ

-- a function's name: the text of its name id, or none
unfoldable pub function_name : Context → ℕ → List ℕ
function_name e id = pick (has_text e id) (text_at e id) []

-- `function N (name):`, the name quoted; an empty name gives the short form
unfoldable pub banner : ℕ → List ℕ → List ℕ
banner id name =
    text "function " ++ decimal id ++ pick (eqb (length name) 0) [] (text " (" ++ quoted name ++ text ")") ++ text ":"

-- one function: "20, 18 of its body, its banner's 3, decoding, then 3 with the two spaces counted; 20 and a banner's 3 give
-- the function's index"
unfoldable pub list_function_in : Options → Context → ℕ → Area → ℕ → Listed
list_function_in o e last a id =
    let title = banner id (function_name e (function_name_id a.functions id)) in
    let body = list_decoded o e (text "  ") (decode_body e.types last (function_body a.functions a.bytes a.base id)) in
    let whole = append (append (listed (title ++ text "\n") 0) body) (listed (text "\n") 0) in
    pick (in_area a.functions a.bytes a.base id)
    (pick (ltb body_limit (function_size a.functions id)) (not_listed TooLarge)
    (pick (ltb line_limit (length title)) (not_listed (LongLine id)) whole))
    (not_listed (NoFunction id))

-- "Functions are taken by index": n of them from `id` on
unfoldable pub list_functions_from : ℕ → Options → Context → ℕ → Area → ℕ → Listed
list_functions_from zero o e last a id = listed [] 0
list_functions_from (suc n) o e last a id = append (list_function_in o e last a id) (list_functions_from n o e last a (suc id))

abbrev pub list_all : Options → Context → ℕ → Area → Listed
list_all o e last a = list_functions_from (function_count a.functions) o e last a 0
