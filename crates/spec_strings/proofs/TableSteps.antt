-- How a search through the string table steps from entry to entry. Assumes nothing.
use mathlib.Core.Path.{◌≡◌, ap, sym, ◌∙◌}
use mathlib.Core.Bool.{true, false}
use Prim.Native.Nat.{ℕ, zero, suc, ◌+◌, ◌-◌, ◌≤◌, ◌<◌}
use native.Mathlib.Numerals.{add-one}
use native.Mathlib.Omega.{arith}
use mathlib.Core.List.{List, ◌∷◌}
use lib.ListN.{length, drop, get_or, drop_of_length-le}
use lib.Seq.{drop-cons}
use Rattle.lists.specs.Scan.{same, part}
use Rattle.lists.specs.Found.Found.{found, missing}
use Rattle.spec_strings.specs.Table.{well_formed, fault_from, lookup_from, entry_start}

-- an entry behind the first starts where the one before it ends
pub start_next : (ends : List ℕ) (id : ℕ) → 0 < id → entry_start ends id ≡ get_or ends (id - 1) 0
start_next ends zero h = absurd (omega arith)
start_next ends (suc id) h =
    let e : suc id - 1 ≡ id = omega arith in
    rw e

-- the clauses, by their test
module _ (bytes : List ℕ) (start id e : ℕ) (es : List ℕ) where
  -- an entry in order is passed over
  pub fault_cons_go : well_formed bytes start e ≡ true → fault_from bytes start id (e ∷ es) ≡ fault_from bytes e (suc id) es
  unfolding fault_from
  fault_cons_go h = rw (h, fault_from)

  -- the first that is not is answered
  pub fault_cons_stop : well_formed bytes start e ≡ false → fault_from bytes start id (e ∷ es) ≡ found id
  unfolding fault_from
  fault_cons_stop h = rw (h, fault_from)

  module _ (text : List ℕ) where
    -- an equal text is answered
    pub lookup_cons_stop : same (part bytes start (e - start)) text ≡ true → lookup_from text bytes start id (e ∷ es) ≡ found id
    unfolding lookup_from
    lookup_cons_stop h = rw (h, lookup_from)

    -- another is passed over
    pub lookup_cons_go : same (part bytes start (e - start)) text ≡ false → lookup_from text bytes start id (e ∷ es) ≡ lookup_from text bytes e (suc id) es
    unfolding lookup_from
    lookup_cons_go h = rw (h, lookup_from)

-- what a loop's invariant steps by, where `e` is the end that was read
module _ (bytes ends : List ℕ) (start i : ℕ) where
  module _ {e : ℕ} (h : i < length ends) (q : e ≡ get_or ends i 0) where
    here : drop i ends ≡ e ∷ drop (i + 1) ends
    here = rw (q, add-one i) (drop-cons ends i 0 h)

    -- the entry is in order
    pub fault_go : well_formed bytes start e ≡ true → fault_from bytes start i (drop i ends) ≡ fault_from bytes e (i + 1) (drop (i + 1) ends)
    fault_go t = rw here (fault_cons_go bytes start i e _ t) ∙ ap (λ (k : ℕ). fault_from bytes e k (drop (i + 1) ends)) (sym (add-one i))

    -- the entry is not in order
    pub fault_stop : well_formed bytes start e ≡ false → fault_from bytes start i (drop i ends) ≡ found i
    fault_stop t = rw here (fault_cons_stop bytes start i e _ t)

    module _ (text : List ℕ) {entry : List ℕ} (x : entry ≡ part bytes start (e - start)) where
      -- the entry has another text
      pub lookup_go : same entry text ≡ false → lookup_from text bytes start i (drop i ends) ≡ lookup_from text bytes e (i + 1) (drop (i + 1) ends)
      lookup_go t =
          rw here (lookup_cons_go bytes start i e _ text (rw x at t)) ∙ ap (λ (k : ℕ). lookup_from text bytes e k (drop (i + 1) ends)) (sym (add-one i))

      -- the entry has the text
      pub lookup_stop : same entry text ≡ true → lookup_from text bytes start i (drop i ends) ≡ found i
      lookup_stop t = rw here (lookup_cons_stop bytes start i e _ text (rw x at t))

  -- no entry is left, so none is at fault
  pub fault_end : length ends ≤ i → fault_from bytes start i (drop i ends) ≡ missing
  unfolding fault_from
  fault_end h = rw (drop_of_length-le ends h)

  -- no entry is left, so none has the text
  pub lookup_end : (text : List ℕ) → length ends ≤ i → lookup_from text bytes start i (drop i ends) ≡ missing
  unfolding lookup_from
  lookup_end text h = rw (drop_of_length-le ends h)
