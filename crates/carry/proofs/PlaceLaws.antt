-- The marks that a walk over records leaves in a map. Assumes nothing.
use mathlib.Core.Path.{◌≡◌, refl, ap, sym, ◌∙◌}
use mathlib.Core.List.{List, [], ◌∷◌}
use Prim.Native.Nat.{ℕ, suc, ◌+◌, ◌<◌}
use native.Mathlib.Omega.{arith}
use lib.Dec.{eqb}
use lib.ListN.{length, get_or, set, replicate, length-set, get_or-replicate, get_or-eq_default}
use lib.Seq.{get_or-set_same, get_or-set_other}
use borrow.Author.Tests.{eq-eqb, ne_eqb}
use Rattle.lists.specs.Found.{Found}
use Rattle.lists.specs.Found.Found.{found, missing}
use Rattle.lists.proofs.Tests.{by_test, by_leb, by_eqb}
use Rattle.spec_sheet.specs.Row.{length_of}
use Rattle.spec_inputs.specs.Context.{Context}
use Rattle.spec_body.specs.Record.{offset_of}
use Rattle.spec_body.specs.Starts.{Chain, places_of}
use Rattle.spec_body.specs.Starts.Chain.{none, one}
use Rattle.spec_body.proofs.StartLaws.{chain_spans}
use Rattle.spec_carry.specs.Meaning.{first_place}
use Rattle.spec_carry.specs.Passes.{moved_from, new_row}
use Rattle.spec_carry.specs.Carry.{carrying}
use Rattle.carry.specs.Places.{place_mark, Mapped}

-- a map in which each record's start has its mark, and then the end; the first record goes to `new`
unfoldable pub marks_from : Context → Context → List ℕ → ℕ → List (List ℕ) → ℕ → List ℕ
marks_from a b map new [] end = set map end (new + 1)
marks_from a b map new (r ∷ rs) end = marks_from a b (set map (offset_of r) (new + 1)) (new + length_of (new_row a b r)) rs end

-- the mark of a place that was searched, else what stood there
mark_or : ℕ → List ℕ → Found → ℕ
mark_or old moved (found k) = get_or moved k 0 + 1
mark_or old moved missing = old

-- a search that counts from 1 more
next : Found → Found
next (found k) = found (suc k)
next missing = missing

first_next : (p k : ℕ) (xs : List ℕ) → first_place (eqb p) (suc k) xs ≡ next (first_place (eqb p) k xs)
unfolding first_place next
first_next p k [] = refl
first_next p k (x ∷ xs) = by_test (eqb p x) (λ h. rw h refl) (λ h. rw h (first_next p (suc k) xs))

mark_next : (old m : ℕ) (moved : List ℕ) (f : Found) → mark_or old (m ∷ moved) (next f) ≡ mark_or old moved f
unfolding mark_or next
mark_next old m moved (found k) = refl
mark_next old m moved missing = refl

-- no place of a chain lies in front of it
none_before : (rs : List (List ℕ)) (lo end : ℕ) → Chain rs lo end → (p k : ℕ) → p < lo → first_place (eqb p) k (places_of rs end) ≡ missing
unfolding first_place places_of
none_before [] lo end none p k h = rw (ne_eqb p lo (λ e. omega arith)) refl
none_before (r ∷ rs) lo end (one e l c) p k h = rw (ne_eqb p (offset_of r) (λ f. omega arith)) (none_before rs _ end c p (suc k) (omega arith))

-- each byte position of the map: places rise, so that no mark is written over
module _ (a b : Context) (p : ℕ) where
  mark_at : (rs : List (List ℕ)) (lo end : ℕ) → Chain rs lo end → (map : List ℕ) (new : ℕ) → end < length map
      → get_or (marks_from a b map new rs end) p 0 ≡ mark_or (get_or map p 0) (moved_from a b new rs) (first_place (eqb p) 0 (places_of rs end))
  unfolding marks_from mark_or first_place places_of moved_from
  mark_at [] lo end none map new h =
      by_eqb p lo
      (λ e. rw (eq-eqb p lo e, e) (get_or-set_same map lo (new + 1) 0 h))
      (λ e. rw (ne_eqb p lo e) (get_or-set_other map lo p (new + 1) 0 e))
  mark_at (r ∷ rs) lo end (one e l c) map new h =
      let at = offset_of r in
      let new' = new + length_of (new_row a b r) in
      let ih = mark_at rs _ end c (set map at (new + 1)) new' (omega (arith, length-set map at (new + 1))) in
      by_eqb p at
      (λ f. ih ∙ rw (eq-eqb p at f, none_before rs _ end c p 0 (omega arith), f) (get_or-set_same map at (new + 1) 0 (omega (arith, chain_spans c))))
      (λ f. ih ∙ rw (ne_eqb p at f, get_or-set_other map at p (new + 1) 0 f, first_next p 0 (places_of rs end))
      (sym (mark_next (get_or map p 0) new (moved_from a b new' rs) (first_place (eqb p) 0 (places_of rs end)))))

-- a map of zeros has zeros everywhere, behind it too
zero_at : (map : List ℕ) (p : ℕ) → map ≡ replicate (length map) 0 → get_or map p 0 ≡ 0
zero_at map p e =
    by_leb (length map) p
    (λ h. get_or-eq_default map 0 h)
    (λ h. ap (λ (m : List ℕ). get_or m p 0) e ∙ get_or-replicate (length map) p 0 0 h)

mark_is : (moved : List ℕ) (f : Found) → mark_or 0 moved f ≡ place_mark moved f
unfolding mark_or place_mark
mark_is moved (found k) = omega arith
mark_is moved missing = refl

-- all marks of a body
pub marks_mapped : (a b : Context) (rs : List (List ℕ)) (end : ℕ) (map : List ℕ) → Chain rs 0 end → end < length map → map ≡ replicate (length map) 0
    → Mapped (carrying a b end rs) (marks_from a b map 0 rs end)
marks_mapped a b rs end map c h z p =
    let f = first_place (eqb p) 0 (places_of rs end) in
    mark_at a b p rs 0 end c map 0 h ∙ (rw (zero_at map p z) (mark_is (moved_from a b 0 rs) f))
