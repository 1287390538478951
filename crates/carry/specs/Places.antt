-- The map of places: where each instruction goes, by byte position. Assumes nothing.
use Rattle.std.specs.Prelude.{◌≡◌, List, ℕ, suc, Result, Ok, Err, eqb, length, get_or}
use Rattle.lists.specs.Found.{Found}
use Rattle.lists.specs.Found.Found.{found, missing}
use Rattle.answers.specs.declared.refusal.Refusal.{Refusal}
use Rattle.spec_inputs.specs.Context.{Context}
use Rattle.spec_body.specs.Decode.{Decoded}
use Rattle.spec_body.specs.Decode.Decoded.{decoded, not_decoded}
use Rattle.spec_carry.specs.Meaning.{first_place}
use Rattle.spec_carry.specs.Passes.{Carrying}
use Rattle.spec_carry.specs.Carry.{carrying}

-- what stands for a place that was searched: 1 more than where it moves to, 0 where it is none
unfoldable pub place_mark : List ℕ → Found → ℕ
place_mark moved (found k) = suc (get_or moved k 0)
place_mark moved missing = 0

-- by byte position, what stands for the place there
abbrev pub Mapped : Carrying → List ℕ → Type 0
Mapped x map = (p : ℕ) → get_or map p 0 ≡ place_mark x.moved (first_place (eqb p) 0 x.places)

-- a body that is decoded to d has its places in the map, or is refused
pub data PlacesMarked (a b : Context) (d : Decoded) (size : ℕ) (map : List ℕ) (r : Result ℕ Refusal) : Type 0 where
  marked : (rs : List (List ℕ)) → d ≡ decoded rs → r ≡ Ok (length rs) → Mapped (carrying a b size rs) map → PlacesMarked a b d size map r
  refuses : (x : Refusal) → d ≡ not_decoded x → r ≡ Err x → PlacesMarked a b d size map r
