-- A function of an area: u32 triples offset, size, name id (document 01, 'Around the core' and 20). Assumes nothing.
use Rattle.std.specs.Prelude.{Bool, List, ℕ, ◌+◌, ◌-◌, ◌*◌, ◌/◌, leb, ltb, length, get_or}
use Rattle.lists.specs.Choice.{both}
use Rattle.lists.specs.Scan.{part}

-- "Words behind the last whole triple are ignored"
abbrev pub function_count : List ℕ → ℕ
function_count functions = length functions / 3

abbrev pub function_offset : List ℕ → ℕ → ℕ
function_offset functions id = get_or functions (3 * id) 0

abbrev pub function_size : List ℕ → ℕ → ℕ
function_size functions id = get_or functions (3 * id + 1) 0

abbrev pub function_name_id : List ℕ → ℕ → ℕ
function_name_id functions id = get_or functions (3 * id + 2) 0

-- not 20: "function id not below the count, offset below the area's base, or end past the area"
unfoldable pub in_area : List ℕ → List ℕ → ℕ → ℕ → Bool
in_area functions area base id =
    both (ltb id (function_count functions))
    (both (leb base (function_offset functions id)) (leb (function_offset functions id - base + function_size functions id) (length area)))

-- the function's body
abbrev pub function_body : List ℕ → List ℕ → ℕ → ℕ → List ℕ
function_body functions area base id = part area (function_offset functions id - base) (function_size functions id)
