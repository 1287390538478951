-- Where a function lies in its area. Assumes nothing.
use Rattle.std.specs.Prelude.{◌≡◌, List, ℕ, ◌+◌, ◌-◌, ◌≤◌, ltb, length, Result, Ok, Err}
use Rattle.limits.specs.Limits.{body_limit}
use Rattle.lists.specs.Choice.{pick}
use Rattle.spec_body.specs.Function.{in_area, function_offset, function_size, function_name_id}
use Rattle.answers.specs.declared.refusal.Refusal.{Refusal}
use Rattle.answers.specs.declared.refusal.Refusal.TheVariants.{TooLarge, NoFunction}
use Rattle.operation.specs.declared.area.Function.{Function}

-- a function's body in its area, and the id of its name
abbrev pub function_at : List ℕ → ℕ → ℕ → Function
function_at functions base id =
    record { start = function_offset functions id - base; size = function_size functions id; name = function_name_id functions id }

-- "20 and then 18 of its body"
unfoldable pub located_of : List ℕ → List ℕ → ℕ → ℕ → Result Function Refusal
located_of functions area base id =
    pick (in_area functions area base id) (pick (ltb body_limit (function_size functions id)) (Err TooLarge) (Ok (function_at functions base id))) (Err (NoFunction id))

-- the body of a function that was found lies in the area, and is not too large
abbrev pub Within : List ℕ → Result Function Refusal → Type 0
Within area place = (f : Function) → place ≡ Ok f → (f.start + f.size ≤ length area) × (f.size ≤ body_limit)
