-- Names differ, so that an opcode's own name is found at that opcode; and what a search that was made says. Assumes nothing.
use mathlib.Core.Path.{◌≡◌, refl, ap, sym, ◌∙◌}
use mathlib.Core.Bool.{true, false}
use mathlib.Core.List.{List, [], ◌∷◌}
use Prim.Native.Nat.{ℕ, zero, suc, ◌+◌, ◌-◌, ◌≤◌, ◌<◌}
use native.Mathlib.Nat.{sub-zero}
use native.Mathlib.Omega.{arith}
use lib.Dec.{ltb}
use lib.ListN.{length, take, get_or, length-take, get_or-eq_default}
use lib.Seq.{get_or-take}
use borrow.Author.Tests.{ltb-true, lt-ltb, le-ltb}
use Rattle.lists.specs.Scan.{same, part}
use Rattle.lists.specs.Found.{Found}
use Rattle.lists.specs.Found.Found.{found, missing}
use Rattle.lists.proofs.Tests.{both_left, both_right, both_yes, both_no_left, by_test, by_leb, by_eqb, true_not_false}
use Rattle.lists.proofs.Scans.{same_refl, same_eq}
use Rattle.spec_sheet.specs.Line.{Op, info_row, op_name}
use Rattle.spec_sheet.specs.Sheet.{no_info_rows, info_rows, has_name, find_name, Sheet, sheet_at, above}
use Rattle.spec_sheet.specs.Sheet.SheetRead.{sheet}
use Rattle.spec_sheet.proofs.NameLaws.{find_cons_here, find_cons_next}
use Rattle.spec_sheet.proofs.TakenLaws.{Follows, Taken, start, more, sheet_taken}
use Rattle.spec_sheet.proofs.RowLaws.{OpRows, more_same, more_other, gaps_from, info_rows_past, sheet_named, sheet_name}
use Rattle.spec_sheet.proofs.NameTextLaws.{NameText, name_text}

-- the name that a row of the table says
abbrev pub row_name : List ℕ → List ℕ → List ℕ
row_name s row = part s (get_or row 2 0) (get_or row 3 0)

-- whether a row has a name
module _ (s name row : List ℕ) where
  -- its length is not 0
  pub has_size : has_name s name row ≡ true → 0 < get_or row 3 0
  unfolding has_name
  has_size e = ltb-true 0 (get_or row 3 0) (both_left (ltb 0 (get_or row 3 0)) _ e)

  -- its bytes are the name
  pub has_bytes : has_name s name row ≡ true → row_name s row ≡ name
  unfolding has_name
  has_bytes e = same_eq (row_name s row) name (both_right (ltb 0 (get_or row 3 0)) _ e)

  -- a row of no length has none
  pub has_none : get_or row 3 0 ≡ 0 → has_name s name row ≡ false
  unfolding has_name
  has_none e = both_no_left (ltb 0 (get_or row 3 0)) _ (le-ltb 0 (get_or row 3 0) (omega arith))

  -- a row has its own name
  pub has_this : 0 < get_or row 3 0 → row_name s row ≡ name → has_name s name row ≡ true
  unfolding has_name
  has_this h e = both_yes (ltb 0 (get_or row 3 0)) (same (row_name s row) name) (lt-ltb 0 (get_or row 3 0) h) (rw e (same_refl name))

-- row k is the first that has the name
pub record FirstNamed (s name : List ℕ) (rows : List (List ℕ)) (k : ℕ) : Type 0 where
  pub inside : k < length rows
  pub named : has_name s name (get_or rows k []) ≡ true
  pub first : (j : ℕ) → j < k → has_name s name (get_or rows j []) ≡ false

module _ (s name : List ℕ) where
  here_first : (row : List ℕ) (rows : List (List ℕ)) → has_name s name row ≡ true → FirstNamed s name (row ∷ rows) 0
  here_first row rows h = record { inside = omega arith; named = h; first = λ j l. absurd (omega arith) }

  next_first : (row : List ℕ) (rows : List (List ℕ)) (i : ℕ) → has_name s name row ≡ false → FirstNamed s name rows i → FirstNamed s name (row ∷ rows) (suc i)
  next_first row rows i h f = record { inside = omega (arith, f.inside); named = f.named; first = before }
    where
      before : (j : ℕ) → j < suc i → has_name s name (get_or (row ∷ rows) j []) ≡ false
      before zero l = h
      before (suc j) l = f.first j (omega arith)

  found_from : (rows : List (List ℕ)) (b k : ℕ) → find_name s name b rows ≡ found k → (b ≤ k) × FirstNamed s name rows (k - b)
  unfolding find_name
  found_from [] b k e = absurd (let z : ◌≡◌ {A = ℕ} 0 1 = cc e in omega arith)
  found_from (row ∷ rows) b k e =
      by_test (has_name s name row)
      (λ h. let q = sym (find_cons_here s name b row rows h) ∙ e in
      let w : b ≡ k = cc q in
      let z : k - b ≡ 0 = omega arith in
      (omega arith, rw z (here_first row rows h)))
      (λ h. let f = found_from rows (suc b) k (sym (find_cons_next s name b row rows h) ∙ e) in
      let z : k - b ≡ suc (k - suc b) = omega (arith, f.0) in
      (omega (arith, f.0), rw z (next_first row rows (k - suc b) h f.1)))

  missing_from : (rows : List (List ℕ)) (b : ℕ) → find_name s name b rows ≡ missing → (j : ℕ) → has_name s name (get_or rows j []) ≡ false
  missing_from [] b e j = has_none s name [] refl
  missing_from (row ∷ rows) b e j =
      by_test (has_name s name row)
      (λ h. absurd (let q = sym (find_cons_here s name b row rows h) ∙ e in let z : ◌≡◌ {A = ℕ} 0 1 = cc q in omega arith))
      (λ h. go h (missing_from rows (suc b) (sym (find_cons_next s name b row rows h) ∙ e)) j)
    where
      go : has_name s name row ≡ false → ((i : ℕ) → has_name s name (get_or rows i []) ≡ false) → (i : ℕ) → has_name s name (get_or (row ∷ rows) i []) ≡ false
      go h ih zero = h
      go h ih (suc i) = ih i

  find_from : (rows : List (List ℕ)) (b k : ℕ) → FirstNamed s name rows k → find_name s name b rows ≡ found (b + k)
  find_from [] b k f = absurd (omega (arith, f.inside))
  find_from (row ∷ rows) b zero f = find_cons_here s name b row rows f.named ∙ ap found (omega arith)
  find_from (row ∷ rows) b (suc k) f =
      find_cons_next s name b row rows (f.first 0 (omega arith))
      ∙ find_from rows (suc b) k record { inside = omega (arith, f.inside); named = f.named; first = λ j l. f.first (suc j) (omega arith) }
      ∙ ap found (omega arith)

  none_from : (rows : List (List ℕ)) (b : ℕ) → ((j : ℕ) → j < length rows → has_name s name (get_or rows j []) ≡ false) → find_name s name b rows ≡ missing
  unfolding find_name
  none_from [] b f = refl
  none_from (row ∷ rows) b f = find_cons_next s name b row rows (f 0 (omega arith)) ∙ none_from rows (suc b) (λ j h. f (suc j) (omega arith))

  -- behind the end there is no name
  pub named_inside : (rows : List (List ℕ)) (k : ℕ) → has_name s name (get_or rows k []) ≡ true → k < length rows
  named_inside rows k e =
      by_leb (length rows) k
      (λ h. true_not_false _ e (ap (has_name s name) (get_or-eq_default rows [] h) ∙ has_none s name [] refl))
      (λ h. h)

  -- the first n rows of a table
  module _ (n : ℕ) (rows : List (List ℕ)) where
    in_front : (k : ℕ) → k < n → get_or (take n rows) k [] ≡ get_or rows k []
    in_front k h = get_or-take n rows k [] h

    found_front : (k : ℕ) → find_name s name 0 (take n rows) ≡ found k → FirstNamed s name (take n rows) k
    found_front k e = rw (sub-zero k) at (found_from (take n rows) 0 k e).1

    -- what is found is among them
    pub found_below : (k : ℕ) → find_name s name 0 (take n rows) ≡ found k → k < n
    found_below k e = omega (arith, (found_front k e).inside, length-take n rows)

    -- it has the name
    pub found_named : (k : ℕ) → find_name s name 0 (take n rows) ≡ found k → has_name s name (get_or rows k []) ≡ true
    found_named k e = rw (in_front k (found_below k e)) at (found_front k e).named

    -- it is no gap
    pub found_size : (k : ℕ) → find_name s name 0 (take n rows) ≡ found k → 0 < get_or (get_or rows k []) 3 0
    found_size k e = has_size s name (get_or rows k []) (found_named k e)

    -- its bytes are the name
    pub found_bytes : (k : ℕ) → find_name s name 0 (take n rows) ≡ found k → row_name s (get_or rows k []) ≡ name
    found_bytes k e = has_bytes s name (get_or rows k []) (found_named k e)

    -- no row before it has the name
    pub found_first : (k : ℕ) → find_name s name 0 (take n rows) ≡ found k → (j : ℕ) → j < k → has_name s name (get_or rows j []) ≡ false
    found_first k e j h = rw (in_front j (omega (arith, found_below k e))) at ((found_front k e).first j h)

    -- where nothing is found no row has the name
    pub missing_none : find_name s name 0 (take n rows) ≡ missing → (k : ℕ) → k < n → has_name s name (get_or rows k []) ≡ false
    missing_none e k h = rw (in_front k h) at (missing_from (take n rows) 0 e k)

    -- the first row with the name is found
    pub first_found : (k : ℕ) → k < n → has_name s name (get_or rows k []) ≡ true → ((j : ℕ) → j < k → has_name s name (get_or rows j []) ≡ false)
        → find_name s name 0 (take n rows) ≡ found k
    first_found k h e f =
        find_from (take n rows) 0 k record {
          inside = omega (arith, named_inside rows k e, length-take n rows);
          named = rw (in_front k h) e;
          first = λ j l. rw (in_front j (omega arith)) (f j l);
        }
        ∙ ap found (omega arith)

    -- where no row has the name nothing is found
    pub none_missing : ((j : ℕ) → j < n → has_name s name (get_or rows j []) ≡ false) → find_name s name 0 (take n rows) ≡ missing
    none_missing f =
        none_from (take n rows) 0
        (λ j h. let l : j < n = omega (arith, length-take n rows) in rw (in_front j l) (f j l))

-- from one more than the largest opcode on no row has a name
pub no_size_from : (s : List ℕ) (os : List Op) → Taken s os → (k : ℕ) → above 0 os ≤ k → get_or (get_or (info_rows os) k []) 3 0 ≡ 0
no_size_from s os t k h =
    by_leb 256 k
    (λ l. ap (λ (r : List ℕ). get_or r 3 0) (info_rows_past os k l))
    (λ l. ap (λ (r : List ℕ). get_or r 3 0) (gaps_from s os t k l h).info)

-- an opcode that follows: no row of those seen has its name
follows_new : (s : List ℕ) (seen : List Op) (o : Op) → Taken s seen → Follows s seen o → (j : ℕ) → has_name s (op_name s o) (get_or (info_rows seen) j []) ≡ false
follows_new s seen o t f j =
    by_leb (above 0 seen) j
    (λ h. has_none s (op_name s o) _ (no_size_from s seen t j h))
    (λ h. missing_none s (op_name s o) (above 0 seen) (info_rows seen) f.new_name j h)

-- a row with a name has one that no row before it has
pub names_rise : (s : List ℕ) (os : List Op) → Taken s os → (j k : ℕ) → j < k → 0 < get_or (get_or (info_rows os) k []) 3 0
    → has_name s (row_name s (get_or (info_rows os) k [])) (get_or (info_rows os) j []) ≡ false
unfolding info_row above
names_rise s os start j k h l = absurd (omega (arith, no_size_from s os start k (omega arith)))
names_rise s os (more seen o t f e) j k h l =
    rw e
    (by_eqb k o.code
    (λ q. let own = more_same info_row no_info_rows seen o (omega (arith, f.good.code)) in
    rw (q, own, more_other info_row no_info_rows seen o j (λ z. omega arith)) (follows_new s seen o t f j))
    (λ q. let kept = more_other info_row no_info_rows seen o k q in
    let size : 0 < get_or (get_or (info_rows seen) k []) 3 0 = rw (e, kept) at l in
    by_leb (above 0 seen) k
    (λ z. absurd (omega (arith, no_size_from s seen t k z)))
    (λ z. rw (kept, more_other info_row no_info_rows seen o j (λ w. omega (arith, f.rises))) (names_rise s seen t j k h size))))

-- "Names differ"
pub names_differ : (s : List ℕ) (os : List Op) → Taken s os → (j k : ℕ) → (j ≡ k → ⊥) → 0 < get_or (get_or (info_rows os) k []) 3 0
    → has_name s (row_name s (get_or (info_rows os) k [])) (get_or (info_rows os) j []) ≡ false
names_differ s os t j k d l =
    by_leb k j
    (λ h. by_test (has_name s (row_name s (get_or (info_rows os) k [])) (get_or (info_rows os) j []))
    (λ e. true_not_false _
    (has_this s (row_name s (get_or (info_rows os) j [])) (get_or (info_rows os) k []) l (sym (has_bytes s _ _ e)))
    (names_rise s os t k j (omega (arith, d)) (has_size s _ _ e)))
    (λ e. e))
    (λ h. names_rise s os t j k h l)

-- an opcode's own name is found at that opcode
pub own_name : (s : List ℕ) (os : List Op) → Taken s os → (n k : ℕ) → k < n → 0 < get_or (get_or (info_rows os) k []) 3 0
    → find_name s (row_name s (get_or (info_rows os) k [])) 0 (take n (info_rows os)) ≡ found k
own_name s os t n k h l =
    first_found s (row_name s (get_or (info_rows os) k [])) n (info_rows os) k h (has_this s _ (get_or (info_rows os) k []) l refl) (λ j b. names_rise s os t j k b l)

-- of a sheet that was read
module _ (s : List ℕ) (at : ℕ) (sh : Sheet) (c : ℕ) (e : sheet_at s at ≡ sheet sh c) where
  -- an opcode's own name is found at that opcode
  pub sheet_own_name : (n k : ℕ) → k < n → 0 < get_or (get_or (info_rows sh.opcodes) k []) 3 0
      → find_name s (part s (get_or (get_or (info_rows sh.opcodes) k []) 2 0) (get_or (get_or (info_rows sh.opcodes) k []) 3 0)) 0 (take n (info_rows sh.opcodes)) ≡ found k
  sheet_own_name = own_name s sh.opcodes (sheet_taken s at sh c e)

  module _ (name : List ℕ) (n : ℕ) where
    -- what is found is an opcode of the sheet
    pub sheet_found : (k : ℕ) → find_name s name 0 (take n (info_rows sh.opcodes)) ≡ found k → OpRows s sh.opcodes k
    sheet_found k f = sheet_named s at sh c e k (found_size s name n (info_rows sh.opcodes) k f)

    -- what is found is a name
    pub sheet_found_text : (k : ℕ) → find_name s name 0 (take n (info_rows sh.opcodes)) ≡ found k → NameText name
    sheet_found_text k f =
        rw (found_bytes s name n (info_rows sh.opcodes) k f)
        at (name_text s _ _ (sheet_name s at sh c e k (found_size s name n (info_rows sh.opcodes) k f)))

    -- so that what is no name is not found
    pub sheet_no_name : (NameText name → ⊥) → find_name s name 0 (take n (info_rows sh.opcodes)) ≡ missing
    sheet_no_name h = go (find_name s name 0 (take n (info_rows sh.opcodes))) refl
      where
        go : (r : Found) → find_name s name 0 (take n (info_rows sh.opcodes)) ≡ r → r ≡ missing
        go (found k) f = absurd (h (sheet_found_text k f))
        go missing f = refl
