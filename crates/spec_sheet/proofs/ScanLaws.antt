-- Laws of readings at a place, case by case. Assumes nothing.
use mathlib.Core.Path.{◌≡◌, refl, sym, ◌∙◌}
use mathlib.Core.Bool.{true, false}
use mathlib.Core.List.{List}
use Prim.Native.Nat.{ℕ, ◌+◌, ◌≤◌, ◌<◌}
use native.Mathlib.Omega.{arith}
use lib.Dec.{eqb, ltb}
use lib.ListN.{drop, get_or}
use borrow.Author.Tests.{eq-eqb, ne_eqb}
use Rattle.lists.specs.Choice.{both}
use Rattle.lists.proofs.Tests.{by_eqb, by_test}
use Rattle.spec_numbers.proofs.ParseLaws.{unsigned_bound}
use Rattle.spec_sheet.proofs.TypeLaws.{type_code_bound}
use Rattle.lists.specs.Scan.{run, part}
use Rattle.spec_numbers.specs.Parse.{Parsed, unsigned_value}
use Rattle.spec_numbers.specs.Parse.Parsed.{is, bad}
use Rattle.spec_sheet.specs.Types.{type_code}
use Rattle.spec_sheet.specs.Scan.{Step, after, literal_at, is_digit, is_name_byte, may_be_name, name_at, type_at, number_at, number_read, keyed_at}
use Rattle.spec_sheet.specs.Scan.Step.{next, off}

module _ (s : List ℕ) (at k : ℕ) where
  -- a name that may be one, and one that may not
  pub name_here : k ≡ run is_name_byte (drop at s) → may_be_name s at k ≡ true → name_at s at ≡ next k (at + k)
  unfolding name_at
  name_here e h = rw (sym e, h)

  pub name_off : k ≡ run is_name_byte (drop at s) → may_be_name s at k ≡ false → name_at s at ≡ off
  unfolding name_at
  name_off e h = rw (sym e, h)

  -- the name of a type, and another word
  pub type_here : (code : ℕ) → k ≡ run is_name_byte (drop at s) → code ≡ type_code (part s at k) → (code ≡ 0 → ⊥) → type_at s at ≡ next code (at + k)
  unfolding type_at
  type_here code e f h = rw (sym e, sym f, ne_eqb code 0 h)

  pub type_off : (code : ℕ) → k ≡ run is_name_byte (drop at s) → code ≡ type_code (part s at k) → code ≡ 0 → type_at s at ≡ off
  unfolding type_at
  type_off code e f h = rw (sym e, sym f, eq-eqb code 0 h)

  -- a number: with zeros in front, and without
  pub number_padded : (most : ℕ) → k ≡ run is_digit (drop at s) → both (ltb 1 k) (eqb (get_or s at 0) 48) ≡ true → number_at most s at ≡ off
  unfolding number_at
  number_padded most e h = rw (sym e, h)

  pub number_here : (most : ℕ) → k ≡ run is_digit (drop at s) → both (ltb 1 k) (eqb (get_or s at 0) 48) ≡ false
      → number_at most s at ≡ number_read (unsigned_value 10 most (part s at k)) (at + k)
  unfolding number_at
  number_here most e h = rw (sym e, h)

  pub number_value : (most n : ℕ) → k ≡ run is_digit (drop at s) → both (ltb 1 k) (eqb (get_or s at 0) 48) ≡ false
      → unsigned_value 10 most (part s at k) ≡ is n → number_at most s at ≡ next n (at + k)
  unfolding number_read
  number_value most n e h v = number_here most e h ∙ rw v

  pub number_none : (most : ℕ) → k ≡ run is_digit (drop at s) → both (ltb 1 k) (eqb (get_or s at 0) 48) ≡ false
      → unsigned_value 10 most (part s at k) ≡ bad → number_at most s at ≡ off
  unfolding number_read
  number_none most e h v = number_here most e h ∙ rw v

-- the code of a type that was read
pub type_bound : (s : List ℕ) (at c b : ℕ) → type_at s at ≡ next c b → (0 < c) × (c ≤ 12)
unfolding type_at
type_bound s at c b e =
    let w = part s at (run is_name_byte (drop at s)) in
    by_eqb (type_code w) 0
    (λ h. absurd (let q = sym (type_off s at _ (type_code w) refl refl h) ∙ e in let z : ◌≡◌ {A = ℕ} 0 1 = cc q in omega arith))
    (λ h. let q = sym (type_here s at _ (type_code w) refl refl h) ∙ e in let v : type_code w ≡ c = cc q in
    (omega (arith, h), omega (arith, type_code_bound w)))

-- a number that was read is at most what was allowed
pub number_bound : (most : ℕ) (s : List ℕ) (at v b : ℕ) → number_at most s at ≡ next v b → v ≤ most
number_bound most s at v b e = by_test (both (ltb 1 k) (eqb (get_or s at 0) 48)) padded plain
  where
    k : ℕ
    k = run is_digit (drop at s)

    padded : both (ltb 1 k) (eqb (get_or s at 0) 48) ≡ true → v ≤ most
    padded h = absurd (let q = sym (number_padded s at k most refl h) ∙ e in let z : ◌≡◌ {A = ℕ} 0 1 = cc q in omega arith)

    plain : both (ltb 1 k) (eqb (get_or s at 0) 48) ≡ false → v ≤ most
    plain h = read (unsigned_value 10 most (part s at k)) refl
      where
        read : (p : Parsed) → unsigned_value 10 most (part s at k) ≡ p → v ≤ most
        read (is n) f =
            let q = sym (number_value s at k most n refl h f) ∙ e in
            let w : n ≡ v = cc q in
            omega (arith, unsigned_bound 10 most n (part s at k) f)
        read bad f = absurd (let q = sym (number_none s at k most refl h f) ∙ e in let z : ◌≡◌ {A = ℕ} 0 1 = cc q in omega arith)

-- a chain of readings that was read whole was read at its first step and behind it
pub record Reached (A : Type 0) (x : Step) (then : ℕ → ℕ → A) (r : A) : Type 0 where
  pub value : ℕ
  pub place : ℕ
  pub first : x ≡ next value place
  pub rest : then value place ≡ r

pub reached : {A : Type 0} (x : Step) (failed : A) (then : ℕ → ℕ → A) (r : A) → after x failed then ≡ r → (failed ≡ r → ⊥) → Reached A x then r
unfolding after
reached (next v a) failed then r e f = record { value = v; place = a; first = refl; rest = e }
reached off failed then r e f = absurd (f e)

-- the number between a key and its tail
pub keyed_bound : (key : List ℕ) (most : ℕ) (tail s : List ℕ) (at v b : ℕ) → keyed_at key most tail s at ≡ next v b → v ≤ most
unfolding keyed_at
keyed_bound key most tail s at v b e =
    let p = reached (literal_at key s at) off _ (next v b) e never in
    let q = reached (number_at most s p.place) off _ (next v b) p.rest never in
    let r = reached (literal_at tail s q.place) off _ (next v b) q.rest never in
    let w : q.value ≡ v = cc r.rest in
    omega (arith, w, number_bound most s p.place q.value q.place q.first)
  where
    never : off ≡ next v b → ⊥
    never f = let z : ◌≡◌ {A = ℕ} 0 1 = cc f in omega arith
