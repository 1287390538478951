-- A function's place in an area, case by case. Assumes nothing.
use mathlib.Core.Path.{◌≡◌, ap, sym, ◌∙◌}
use mathlib.Core.Bool.{Bool, true, false}
use mathlib.Core.List.{List}
use Prim.Native.Nat.{ℕ}
use lib.Dec.{ltb}
use Rattle.limits.specs.Limits.{body_limit}
use Rattle.lists.specs.Choice.{pick}
use Rattle.spec_body.specs.Function.{in_area, function_size}
use Rattle.operation.specs.Places.{function_at, located_of}
use Rattle.answers.specs.declared.refusal.Refusal.TheVariants.{TooLarge, NoFunction}
use Rattle.operation.specs.declared.area.Function.{Function}
use Rattle.answers.specs.declared.refusal.Refusal.{Refusal}
use Rattle.std.specs.Prelude.{Result, Ok, Err}

module _ (functions area : List ℕ) (base id : ℕ) where
  -- a choice by 20, then 18, is one by the place
  pub by_place : {A : Type 0} (at : Result Function Refusal → A) (choice : Bool → Bool → A) {place found : Result Function Refusal} → place ≡ located_of functions area base id → place ≡ found
      → choice true true ≡ at (Err TooLarge) → choice true false ≡ at (Ok (function_at functions base id)) → ((c : Bool) → choice false c ≡ at (Err (NoFunction id)))
      → choice (in_area functions area base id) (ltb body_limit (function_size functions id)) ≡ at found
  unfolding located_of
  by_place at choice w e large inside outside =
      by_case (in_area functions area base id) (ltb body_limit (function_size functions id)) ∙ ap at (sym w ∙ e)
    where
      by_case : (b c : Bool) → choice b c ≡ at (pick b (pick c (Err TooLarge) (Ok (function_at functions base id))) (Err (NoFunction id)))
      by_case true true = large
      by_case true false = inside
      by_case false c = outside c
