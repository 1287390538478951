-- What listing one body answers and writes. Assumes nothing.
use Rattle.std.specs.Prelude.{◌≡◌, List, ℕ, Result, Ok, Err}
use Rattle.lists.specs.Write.{Put}
use Rattle.answers.specs.declared.refusal.Refusal.{Refusal}
use Rattle.spec_listing.specs.Listing.{Listed}
use Rattle.spec_listing.specs.Listing.Listed.{listed, not_listed}
use Rattle.list_labels.specs.Collecting.{EntriesFor}
use Rattle.listing.specs.declared.body.Part.{Part}

-- a listing x was written at `from`, where so many label entries are lent: the buffer was `out` and is `out'`; or x is refused
pub data Written (lent : ℕ) (x : Listed) (out : List ℕ) («from» : ℕ) (out' : List ℕ) (r : Result Part Refusal) : Type 0 where
  whole : (t : List ℕ) (needed : ℕ) (p : Part) → x ≡ listed t needed → r ≡ Ok p → EntriesFor lent needed p.entries → Put out «from» t out' p.next
      → Written lent x out «from» out' r
  stopped : (f : Refusal) → x ≡ not_listed f → r ≡ Err f → Written lent x out «from» out' r
