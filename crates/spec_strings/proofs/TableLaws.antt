-- Laws of the string table: what a lookup answers, and what a table without fault has. Assumes nothing.
use mathlib.Core.Path.{◌≡◌, refl, ap, sym, ◌∙◌}
use mathlib.Core.Bool.{Bool, true, false}
use Prim.Native.Nat.{ℕ, zero, suc, ◌+◌, ◌-◌, ◌≤◌, ◌<◌}
use native.Mathlib.Omega.{arith}
use mathlib.Core.List.{List, [], ◌∷◌, ◌++◌}
use lib.Dec.{leb}
use borrow.Author.Tests.{leb-true}
use lib.ListN.{length, get_or, drop, length-drop}
use lib.Seq.{take-append-le, drop-append-le}
use Rattle.lists.specs.Scan.{same, part}
use Rattle.lists.specs.Found.{Found}
use Rattle.lists.specs.Found.Found.{found, missing}
use Rattle.lists.proofs.Tests.{both_left, both_right, by_test, by_leb, true_not_false}
use Rattle.lists.proofs.Scans.{same_eq, same_refl}
use Rattle.spec_strings.specs.Utf8.{is_utf8}
use Rattle.spec_strings.specs.Table.{text_of, well_formed, fault_from, fault, lookup_from, lookup, entry_start, entry_end}
use Rattle.spec_strings.proofs.TableSteps.{fault_cons_go, fault_cons_stop, lookup_cons_go, lookup_cons_stop}

-- a search does not both find and miss
missing_not_found : {P : Type 0} {i : ℕ} → missing ≡ found i → P
missing_not_found q = absurd (let z : ◌≡◌ {A = ℕ} 0 1 = cc in omega arith)

-- what is not the same is not equal
same_no : (s t : List ℕ) → same s t ≡ false → s ≡ t → ⊥
same_no s t e q = true_not_false (same s t) (rw q (same_refl t)) e

-- the text of the k-th entry of `es`, the first of which starts at `start`
abbrev text_from : List ℕ → ℕ → List ℕ → ℕ → List ℕ
text_from bytes start es k = part bytes (get_or (start ∷ es) k 0) (get_or es k 0 - get_or (start ∷ es) k 0)

-- what a lookup that answers i says
record Hit (text bytes : List ℕ) (start id : ℕ) (es : List ℕ) (i : ℕ) : Type 0 where
  steps : ℕ
  place : i ≡ id + steps
  there : steps < length es
  equal : text_from bytes start es steps ≡ text
  first : (j : ℕ) → j < steps → text_from bytes start es j ≡ text → ⊥

hit_here : {text bytes es : List ℕ} {start id e i : ℕ} → same (part bytes start (e - start)) text ≡ true → i ≡ id → Hit text bytes start id (e ∷ es) i
hit_here t q = record { steps = 0; place = omega arith; there = omega arith; equal = same_eq _ _ t; first = λ j h x. omega arith }

hit_later : {text bytes es : List ℕ} {start id e i : ℕ} → same (part bytes start (e - start)) text ≡ false → Hit text bytes e (suc id) es i → Hit text bytes start id (e ∷ es) i
hit_later {text} {bytes} {es} {start} {id} {e} t h = record {
  steps = suc h.steps;
  place = omega (arith, h.place);
  there = omega (arith, h.there);
  equal = h.equal;
  first = none;
}
  where
    none : (j : ℕ) → j < suc h.steps → text_from bytes start (e ∷ es) j ≡ text → ⊥
    none zero l x = same_no _ _ t x
    none (suc j) l x = h.first j (omega arith) x

lookup_hit : (text bytes : List ℕ) (start id : ℕ) (es : List ℕ) (i : ℕ) → lookup_from text bytes start id es ≡ found i → Hit text bytes start id es i
unfolding lookup_from
lookup_hit text bytes start id [] i q = missing_not_found q
lookup_hit text bytes start id (e ∷ es) i q = go (lookup_hit text bytes e (suc id) es i) (same (part bytes start (e - start)) text) refl
  where
    go : (lookup_from text bytes e (suc id) es ≡ found i → Hit text bytes e (suc id) es i) → (t : Bool) → same (part bytes start (e - start)) text ≡ t → Hit text bytes start id (e ∷ es) i
    go ih true t = hit_here t (let w : found id ≡ found i = sym (lookup_cons_stop bytes start id e es text t) ∙ q in cc)
    go ih false t = hit_later t (ih (sym (lookup_cons_go bytes start id e es text t) ∙ q))

-- a lookup that answers
module _ (text bytes ends : List ℕ) (i : ℕ) (q : lookup text bytes ends ≡ found i) where
  -- the answer is an id of the table
  pub lookup_there : i < length ends
  lookup_there = let h = lookup_hit text bytes 0 0 ends i q in omega (arith, h.place, h.there)

  -- its text is the one looked for
  pub lookup_equal : text_of bytes ends i ≡ text
  lookup_equal =
      let h = lookup_hit text bytes 0 0 ends i q in
      let e : i ≡ h.steps = omega (arith, h.place) in
      rw e h.equal

  -- no smaller id has that text
  pub lookup_first : (j : ℕ) → j < i → text_of bytes ends j ≡ text → ⊥
  lookup_first j l x = let h = lookup_hit text bytes 0 0 ends i q in h.first j (omega (arith, h.place)) x

-- a search that answers, at an id or before it
pub record Answers (f : Found) (id : ℕ) : Type 0 where
  pub at : ℕ
  pub answer : f ≡ found at
  pub least : at ≤ id

lookup_own_from : (text bytes : List ℕ) (start id : ℕ) (es : List ℕ) (k : ℕ) → k < length es → text_from bytes start es k ≡ text → Answers (lookup_from text bytes start id es) (id + k)
lookup_own_from text bytes start id [] k h x = absurd (omega arith)
lookup_own_from text bytes start id (e ∷ es) k h x =
    by_test (same (part bytes start (e - start)) text)
    (λ t. record { at = id; answer = lookup_cons_stop bytes start id e es text t; least = omega arith })
    (λ t. later k h x t (lookup_own_from text bytes e (suc id) es))
  where
    later : (k : ℕ) → k < length (e ∷ es) → text_from bytes start (e ∷ es) k ≡ text → same (part bytes start (e - start)) text ≡ false → ((k : ℕ) → k < length es → text_from bytes e es k ≡ text → Answers (lookup_from text bytes e (suc id) es) (suc id + k)) → Answers (lookup_from text bytes start id (e ∷ es)) (id + k)
    later zero h x t ih = absurd (same_no _ _ t x)
    later (suc k) h x t ih =
        let a = ih k (omega arith) x in
        record { at = a.at; answer = lookup_cons_go bytes start id e es text t ∙ a.answer; least = omega (arith, a.least) }

-- the text of an id is found, at that id or before it
pub lookup_own : (bytes ends : List ℕ) (id : ℕ) → id < length ends → Answers (lookup (text_of bytes ends id) bytes ends) id
lookup_own bytes ends id h =
    let a = lookup_own_from (text_of bytes ends id) bytes 0 0 ends id h refl in
    record { at = a.at; answer = a.answer; least = omega (arith, a.least) }

-- and at that id, where no smaller one has the same text
pub lookup_own_first : (bytes ends : List ℕ) (id : ℕ) → id < length ends → ((j : ℕ) → j < id → text_of bytes ends j ≡ text_of bytes ends id → ⊥) → lookup (text_of bytes ends id) bytes ends ≡ found id
lookup_own_first bytes ends id h none =
    let a = lookup_own bytes ends id h in
    by_leb id a.at
    (λ l. let e : a.at ≡ id = omega (arith, a.least) in a.answer ∙ ap found e)
    (λ l. absurd (none a.at l (lookup_equal (text_of bytes ends id) bytes ends a.at a.answer)))

-- a text that is missed is no entry's
pub lookup_none : (text bytes ends : List ℕ) → lookup text bytes ends ≡ missing → (id : ℕ) → id < length ends → text_of bytes ends id ≡ text → ⊥
lookup_none text bytes ends q id h x =
    let a = lookup_own_from text bytes 0 0 ends id h x in
    missing_not_found (sym q ∙ a.answer)

-- entries behind those that were searched change no answer
pub lookup_append : (text bytes : List ℕ) (start id : ℕ) (es fs : List ℕ) (i : ℕ) → lookup_from text bytes start id es ≡ found i → lookup_from text bytes start id (es ++ fs) ≡ found i
unfolding lookup_from
lookup_append text bytes start id [] fs i q = missing_not_found q
lookup_append text bytes start id (e ∷ es) fs i q =
    by_test (same (part bytes start (e - start)) text)
    (λ t. lookup_cons_stop bytes start id e (es ++ fs) text t ∙ sym (lookup_cons_stop bytes start id e es text t) ∙ q)
    (λ t. lookup_cons_go bytes start id e (es ++ fs) text t ∙ lookup_append text bytes e (suc id) es fs i (sym (lookup_cons_go bytes start id e es text t) ∙ q))

-- an entry in order
pub record Sound (bytes : List ℕ) (start end : ℕ) : Type 0 where
  pub rises : start ≤ end
  pub inside : end ≤ length bytes
  pub utf8 : is_utf8 (part bytes start (end - start)) ≡ true

-- what the test of an entry says
pub sound : (bytes : List ℕ) (start end : ℕ) → well_formed bytes start end ≡ true → Sound bytes start end
unfolding well_formed
sound bytes start end e =
    let r = both_right (leb start end) _ e in
    record { rises = leb-true start end (both_left (leb start end) _ e); inside = leb-true end (length bytes) (both_left (leb end (length bytes)) _ r); utf8 = both_right (leb end (length bytes)) _ r }

no_fault_from : (bytes : List ℕ) (start id : ℕ) (es : List ℕ) → fault_from bytes start id es ≡ missing → (k : ℕ) → k < length es → well_formed bytes (get_or (start ∷ es) k 0) (get_or es k 0) ≡ true
no_fault_from bytes start id [] q k h = absurd (omega arith)
no_fault_from bytes start id (e ∷ es) q k h = go (no_fault_from bytes e (suc id) es) (well_formed bytes start e) refl k h
  where
    go : (fault_from bytes e (suc id) es ≡ missing → (k : ℕ) → k < length es → well_formed bytes (get_or (e ∷ es) k 0) (get_or es k 0) ≡ true) → (t : Bool) → well_formed bytes start e ≡ t
        → (k : ℕ) → k < length (e ∷ es) → well_formed bytes (get_or (start ∷ e ∷ es) k 0) (get_or (e ∷ es) k 0) ≡ true
    go ih true t zero h = t
    go ih true t (suc k) h = ih (sym (fault_cons_go bytes start id e es t) ∙ q) k (omega arith)
    go ih false t k h = missing_not_found (sym q ∙ fault_cons_stop bytes start id e es t)

-- in a table without fault every entry is in order
pub no_fault : (bytes ends : List ℕ) → fault bytes ends ≡ missing → (id : ℕ) → id < length ends → Sound bytes (entry_start ends id) (entry_end ends id)
no_fault bytes ends q id h = sound bytes _ _ (no_fault_from bytes 0 0 ends q id h)

-- bytes behind those of an entry in order leave its text
pub text_append : (bytes more : List ℕ) (start end : ℕ) → Sound bytes start end → part (bytes ++ more) start (end - start) ≡ part bytes start (end - start)
text_append bytes more start end w =
    let h : start ≤ length bytes = omega (arith, w.rises, w.inside) in
    let l : end - start ≤ length (drop start bytes) = rw length-drop (omega (arith, w.inside)) in
    rw (drop-append-le start bytes more h, take-append-le (end - start) (drop start bytes) more l)

lookup_bytes : (text bytes more : List ℕ) (start id : ℕ) (es : List ℕ) → fault_from bytes start id es ≡ missing → lookup_from text (bytes ++ more) start id es ≡ lookup_from text bytes start id es
unfolding lookup_from
lookup_bytes text bytes more start id [] q = refl
lookup_bytes text bytes more start id (e ∷ es) q =
    by_test (well_formed bytes start e)
    (λ t. rw (text_append bytes more start e (sound bytes start e t), lookup_bytes text bytes more e (suc id) es (sym (fault_cons_go bytes start id e es t) ∙ q)))
    (λ t. missing_not_found (sym q ∙ fault_cons_stop bytes start id e es t))

-- a table without fault keeps its answers when bytes and entries are added behind it
pub lookup_grows : (text bytes more ends new : List ℕ) (i : ℕ) → fault bytes ends ≡ missing → lookup text bytes ends ≡ found i → lookup text (bytes ++ more) (ends ++ new) ≡ found i
lookup_grows text bytes more ends new i w q =
    lookup_append text (bytes ++ more) 0 0 ends new i (lookup_bytes text bytes more 0 0 ends w ∙ q)
