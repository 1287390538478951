-- Laws of the twelve operand types. Assumes nothing.
use mathlib.Core.Path.{◌≡◌, refl}
use mathlib.Core.Bool.{Bool, true, false, not}
use mathlib.Core.List.{List, [], ◌∷◌}
use Prim.Native.Nat.{ℕ, zero, suc, ◌+◌, ◌≤◌, ◌<◌}
use native.Mathlib.Omega.{arith}
use lib.Dec.{eqb, leb}
use lib.ListN.{length, get_or, get_or-eq_default}
use borrow.Author.Tests.{leb-true, le-leb, eqb-true, eq-eqb}
use Rattle.lists.specs.Scan.{same}
use Rattle.lists.specs.Choice.{pick, both, either, within}
use Rattle.lists.proofs.Tests.{both_left, both_right, both_yes, by_eqb, by_leb, true_not_false}
use Rattle.spec_sheet.specs.Types.{type_code_in, type_code, type_names, width_of, widths, family_of, families, kind_of, kinds}

-- the first name is the word, or is not
pub code_here : (name : List ℕ) (names : List (List ℕ)) (word : List ℕ) (k : ℕ) → same word name ≡ true → type_code_in (name ∷ names) k word ≡ k
unfolding type_code_in
code_here name names word k e = rw (e, type_code_in)

pub code_other : (name : List ℕ) (names : List (List ℕ)) (word : List ℕ) (k : ℕ) → same word name ≡ false → type_code_in (name ∷ names) k word ≡ type_code_in names (suc k) word
unfolding type_code_in
code_other name names word k e = rw (e, type_code_in)

-- a code is that of one of the names, or 0
pub code_bound : (names : List (List ℕ)) (k : ℕ) (word : List ℕ) → 0 < k → type_code_in names k word < k + length names
unfolding type_code_in
code_bound [] k word h = omega arith
code_bound (name ∷ names) k word h = go (same word name) (code_bound names (suc k) word (omega arith))
  where
    go : (f : Bool) → type_code_in names (suc k) word < suc k + length names → pick f k (type_code_in names (suc k) word) < k + suc (length names)
    go true ih = omega arith
    go false ih = omega arith

pub type_code_bound : (word : List ℕ) → type_code word ≤ 12
unfolding type_code type_names
type_code_bound word = omega (arith, code_bound type_names 1 word (omega arith))

-- a test that numbers below n pass, computed once, passes at each of them
unfoldable pub below : (ℕ → Bool) → ℕ → Bool
below p zero = true
below p (suc n) = both (p n) (below p n)

-- each number passes it
pub each_below : (p : ℕ → Bool) (n : ℕ) → below p n ≡ true → (c : ℕ) → c < n → p c ≡ true
unfolding below
each_below p zero e c h = absurd (omega arith)
each_below p (suc n) e c h =
    by_eqb c n
    (λ q. rw q (both_left (p n) (below p n) e))
    (λ q. each_below p n (both_right (p n) (below p n) e) c (omega (arith, q)))

-- one test implies another
unfoldable pub implies : Bool → Bool → Bool
implies a b = either (not a) b

-- the second holds where the first does
pub implied : (a b : Bool) → implies a b ≡ true → a ≡ true → b ≡ true
unfolding implies
implied true b e h = e
implied false b e h = true_not_false false h refl

-- a number that lies in a range
pub within_range : (lo hi n : ℕ) → within lo hi n ≡ true → (lo ≤ n) × (n ≤ hi)
within_range lo hi n e = (leb-true lo n (both_left (leb lo n) (leb n hi) e), leb-true n hi (both_right (leb lo n) (leb n hi) e))

-- what one test of a code says of another, over all codes
pub by_codes : (p q : ℕ → Bool) → below (λ c. implies (p c) (q c)) 13 ≡ true → (c : ℕ) → c ≤ 12 → p c ≡ true → q c ≡ true
by_codes p q e c h = implied (p c) (q c) (each_below (λ d. implies (p d) (q d)) 13 e c (omega arith))

-- a type that is one takes bytes
pub width_some : (c : ℕ) → 0 < c → c ≤ 12 → 1 ≤ width_of c
unfolding below implies width_of
width_some c h l = leb-true 1 (width_of c) (by_codes (λ d. leb 1 d) (λ d. leb 1 (width_of d)) refl c l (le-leb 1 c h))

-- a type that is one has a family
pub family_some : (c : ℕ) → 0 < c → c ≤ 12 → 1 ≤ family_of c
unfolding below implies family_of
family_some c h l = leb-true 1 (family_of c) (by_codes (λ d. leb 1 d) (λ d. leb 1 (family_of d)) refl c l (le-leb 1 c h))

-- the code of no type is in no family
pub family_none : family_of 0 ≡ 0
unfolding family_of
family_none = refl

-- the most that a table of codes holds, at any code
table_most : (l : List ℕ) (n most : ℕ) → length l ≤ n → below (λ c. leb (get_or l c 0) most) n ≡ true → (c : ℕ) → get_or l c 0 ≤ most
table_most l n most h e c =
    by_leb n c
    (λ q. let z : length l ≤ c = omega arith in rw (get_or-eq_default l 0 z) (omega arith))
    (λ q. leb-true _ _ (each_below (λ d. leb (get_or l d 0) most) n e c q))

-- a width is at most 8
pub width_most : (c : ℕ) → width_of c ≤ 8
unfolding below width_of
width_most c = table_most widths 13 8 (omega arith) refl c

-- a family is at most 6
pub family_most : (c : ℕ) → family_of c ≤ 6
unfolding below family_of
family_most c = table_most families 13 6 (omega arith) refl c

-- a kind is at most 5
pub kind_most : (c : ℕ) → kind_of c ≤ 5
unfolding below kind_of
kind_most c = table_most kinds 13 5 (omega arith) refl c

-- a code behind the twelve has no family
family_past : (c : ℕ) → 12 < c → family_of c ≡ 0
unfolding family_of
family_past c h = let z : length families ≤ c = omega arith in get_or-eq_default families 0 z

-- the codes of a family stand side by side
family_range : (f lo hi : ℕ) → 0 < f → below (λ c. implies (eqb (family_of c) f) (within lo hi c)) 13 ≡ true → (c : ℕ) → family_of c ≡ f → (lo ≤ c) × (c ≤ hi)
family_range f lo hi h e c w =
    by_leb c 12
    (λ l. within_range lo hi c (by_codes (λ d. eqb (family_of d) f) (within lo hi) e c l (eq-eqb (family_of c) f w)))
    (λ l. absurd (omega (arith, family_past c l)))

-- the strings are UInt8S, UInt16S and UInt32S
pub family_string : (c : ℕ) → family_of c ≡ 3 → (6 ≤ c) × (c ≤ 8)
unfolding below implies family_of
family_string = family_range 3 6 8 (omega arith) refl

-- the addresses are Addr8 and Addr32
pub family_address : (c : ℕ) → family_of c ≡ 4 → (9 ≤ c) × (c ≤ 10)
unfolding below implies family_of
family_address = family_range 4 9 10 (omega arith) refl

-- what holds of both holds of an address
pub by_address : (P : ℕ → Type 0) (code : ℕ) → family_of code ≡ 4 → P 9 → P 10 → P code
by_address P code f nine ten =
    let r = family_address code f in
    by_eqb code 9 (λ e. rw e nine) (λ n. let e : code ≡ 10 = omega (arith, r.0, r.1, n) in rw e ten)

-- a family and a width make a type
pub same_type : (c d : ℕ) → c ≤ 12 → d ≤ 12 → family_of c ≡ family_of d → width_of c ≡ width_of d → c ≡ d
unfolding below implies family_of width_of
same_type c d h l e f =
    eqb-true c d
    (implied (both (eqb (family_of c) (family_of d)) (eqb (width_of c) (width_of d))) (eqb c d)
    (each_below (pair c) 13 (each_below (λ a. below (pair a) 13) 13 refl c (omega arith)) d (omega arith))
    (both_yes _ _ (eq-eqb _ _ e) (eq-eqb _ _ f)))
  where
    pair : ℕ → ℕ → Bool
    pair a b = implies (both (eqb (family_of a) (family_of b)) (eqb (width_of a) (width_of b))) (eqb a b)

-- the bytes that a kind of value takes, by kind
abbrev pub kind_widths : List ℕ
kind_widths = 1 ∷ 2 ∷ 4 ∷ 1 ∷ 4 ∷ 8 ∷ []

-- a type takes the bytes of its kind
pub kind_width : (c : ℕ) → 0 < c → c ≤ 12 → width_of c ≡ get_or kind_widths (kind_of c) 0
unfolding below implies width_of kind_of
kind_width c h l = eqb-true _ _ (by_codes (λ d. leb 1 d) (λ d. eqb (width_of d) (get_or kind_widths (kind_of d) 0)) refl c l (le-leb 1 c h))
