-- Laws of the search for an opcode's name. Assumes nothing.
use mathlib.Core.Path.{◌≡◌, ap}
use mathlib.Core.Bool.{true, false}
use mathlib.Core.List.{List, [], ◌∷◌}
use Prim.Native.Nat.{ℕ, suc, ◌+◌, ◌≤◌, ◌<◌}
use native.Mathlib.Numerals.{add-one}
use native.Mathlib.Omega.{arith}
use lib.ListN.{length, take, drop, get_or, drop_of_length-le, get_or-eq_default}
use Rattle.lists.proofs.Tests.{by_leb, true_not_false}
use lib.Seq.{drop-cons}
use Rattle.lists.specs.Found.Found.{found, missing}
use borrow.Author.Tests.{le-leb, lt-leb}
use Rattle.spec_sheet.specs.Sheet.{has_name, find_name, is_missing, may_follow}

module _ (s name : List ℕ) where
  pub find_cons_here : (k : ℕ) (row : List ℕ) (rows : List (List ℕ)) → has_name s name row ≡ true → find_name s name k (row ∷ rows) ≡ found k
  unfolding find_name
  find_cons_here k row rows e = rw (e, find_name)

  pub find_cons_next : (k : ℕ) (row : List ℕ) (rows : List (List ℕ)) → has_name s name row ≡ false → find_name s name k (row ∷ rows) ≡ find_name s name (suc k) rows
  unfolding find_name
  find_cons_next k row rows e = rw (e, find_name)

  -- the same from an index on, as a loop steps
  module _ (rows : List (List ℕ)) (k : ℕ) where
    pub find_end : length rows ≤ k → find_name s name k (drop k rows) ≡ missing
    unfolding find_name
    find_end h = rw (drop_of_length-le rows h)

    -- behind the end there is no name
    pub find_here : has_name s name (get_or rows k []) ≡ true → find_name s name k (drop k rows) ≡ found k
    unfolding has_name
    find_here e =
        by_leb (length rows) k
        (λ h. true_not_false _ e (ap (has_name s name) (get_or-eq_default rows [] h)))
        (λ h. rw (drop-cons rows k [] h) (find_cons_here k _ _ e))

    pub find_next : has_name s name (get_or rows k []) ≡ false → find_name s name k (drop k rows) ≡ find_name s name (k + 1) (drop (k + 1) rows)
    unfolding find_name
    find_next e =
        by_leb (length rows) k
        (λ h. let g : length rows ≤ k + 1 = omega arith in rw (drop_of_length-le rows h, drop_of_length-le rows g))
        (λ h. rw (add-one, drop-cons rows k [] h) (find_cons_next k _ (drop (suc k) rows) e))

-- a number below the least, and one from there on: the name decides
module _ (s : List ℕ) (least : ℕ) (rows : List (List ℕ)) (code : ℕ) (name : List ℕ) where
  pub follow_low : code < least → may_follow s least rows code name ≡ false
  unfolding may_follow
  follow_low h = rw (lt-leb least code h, may_follow)

  pub follow_by_name : least ≤ code → may_follow s least rows code name ≡ is_missing (find_name s name 0 (take least rows))
  unfolding may_follow
  follow_by_name h = rw (le-leb least code h)
