-- Laws of one operand's value, over the twelve types. Assumes nothing.
use mathlib.Core.Path.{◌≡◌, refl}
use mathlib.Core.Bool.{Bool, true, false}
use Prim.Native.Nat.{ℕ, zero, suc, ◌+◌, ◌%◌, ◌^◌, ◌≤◌, ◌<◌}
use native.Mathlib.Nat.{lt_of_lt_of_le, pow-le-pow_right}
use native.Mathlib.Omega.{arith}
use lib.Dec.{eqb, leb, ltb}
use lib.ListN.{get_or}
use borrow.Author.Tests.{eqb-true, leb-true, ltb-true, lt-ltb, ne_eqb}
use Rattle.lists.specs.Choice.{pick, both, either}
use Rattle.lists.proofs.Tests.{by_test, by_leb, by_eqb, both_left, both_right, both_yes}
use Rattle.spec_numbers.specs.TwosComplement.{extend8}
use Rattle.spec_body.specs.Encode.{Fitted}
use Rattle.spec_body.specs.Encode.Fitted.{fits, no_fit}
use Rattle.spec_numbers.proofs.SignedLaws.{extend_small, extend_large}
use Rattle.spec_sheet.specs.Types.{width_of, family_of, kind_of}
use Rattle.spec_body.specs.Encode.{kind_widths, good_pair, encode_unsigned, encode_addr8, encode_signed32, encode_double, encode_operand}

-- a test that holds of n numbers from k on, by computing
abbrev pub every_from : (ℕ → Bool) → ℕ → ℕ → Bool
every_from p k zero = true
every_from p k (suc n) = both (p k) (every_from p (suc k) n)

pub every : (p : ℕ → Bool) (k n : ℕ) → every_from p k n ≡ true → (c : ℕ) → k ≤ c → c < k + n → p c ≡ true
every p k zero e c h l = absurd (omega arith)
every p k (suc n) e c h l =
    by_eqb c k (λ q. rw q (both_left (p k) _ e)) (λ q. every p (suc k) n (both_right (p k) _ e) c (omega (arith, q)) (omega arith))

-- the types by what they are written from: unsigned numbers of any family, Addr8, Addr32, Imm32 and Double
pub by_class : (P : ℕ → Type 0) → ((c : ℕ) → leb (family_of c) 3 ≡ true → leb (kind_of c) 2 ≡ true → P c) → P 9 → P 10 → P 11 → P 12
    → (c : ℕ) → 0 < c → c ≤ 12 → P c
unfolding family_of kind_of
by_class P unsigned addr8 addr32 imm32 double c l h =
    by_leb c 8 (λ g. unsigned c (every (λ n. leb (family_of n) 3) 1 8 refl c l (omega arith)) (every (λ n. leb (kind_of n) 2) 1 8 refl c l (omega arith))) λ g.
    by_eqb c 9 (λ e. rw e addr8) λ a.
    by_eqb c 10 (λ e. rw e addr32) λ b.
    by_eqb c 11 (λ e. rw e imm32) λ d.
    let e : c ≡ 12 = omega (arith, a, b, d) in
    rw e double

-- the two cases of a fitted value differ, and its number is one
pub no_fit_not : {P : Type 0} {n : ℕ} → no_fit ≡ fits n → P
no_fit_not e = absurd (let z : ◌≡◌ {A = ℕ} 0 1 = cc in omega arith)

pub same_fits : {m n : ℕ} → fits m ≡ fits n → m ≡ n
same_fits e = cc

-- a type's code is not that of no operand
pub no_zero : (c : ℕ) → 0 < c → eqb c 0 ≡ false
no_zero c h = ne_eqb c 0 (λ q. omega arith)

-- the kind of a type is one, and has its bytes
module _ (c : ℕ) (l : 0 < c) (h : c ≤ 12) where
  pub kind_few : leb (kind_of c) 5 ≡ true
  unfolding kind_of
  kind_few = every (λ n. leb (kind_of n) 5) 1 12 refl c l (omega arith)

  pub kind_width : get_or kind_widths (kind_of c) 0 ≡ width_of c
  unfolding kind_of width_of
  kind_width = eqb-true _ _ (every (λ n. eqb (get_or kind_widths (kind_of n) 0) (width_of n)) 1 12 refl c l (omega arith))

  -- so bits of the type's bytes are a good pair with its kind
  pub typed_pair : (bits : ℕ) → bits < 256 ^ width_of c → good_pair (kind_of c) bits ≡ true
  unfolding good_pair
  typed_pair bits g = both_yes _ _ kind_few (rw kind_width (lt-ltb bits (256 ^ width_of c) g))

-- such bits are written as they are
abbrev Kept : ℕ → Type 0
Kept c = (bits : ℕ) → bits < 256 ^ width_of c → encode_operand c (kind_of c) bits ≡ fits bits

kept_unsigned : (c : ℕ) → leb (family_of c) 3 ≡ true → leb (kind_of c) 2 ≡ true → Kept c
unfolding encode_operand encode_unsigned
kept_unsigned c f k bits h = rw (f, k, lt-ltb bits (256 ^ width_of c) h)

pub kept : (c : ℕ) → 0 < c → c ≤ 12 → (bits : ℕ) → bits < 256 ^ width_of c → encode_operand c (kind_of c) bits ≡ fits bits
unfolding encode_operand encode_addr8 encode_signed32 encode_double family_of kind_of
kept = by_class Kept kept_unsigned (λ bits h. refl) (λ bits h. refl) (λ bits h. refl) (λ bits h. refl)

-- what a good pair is written as has the type's bytes
pub pair_bound : (kind bits : ℕ) → good_pair kind bits ≡ true → bits < 256 ^ get_or kind_widths kind 0
unfolding good_pair
pair_bound kind bits e = ltb-true _ _ (both_right (leb kind 5) _ e)

-- which of two readings it was
pub by_choice : {P : Type 0} {v : ℕ} (t : Bool) (p q : Fitted) → pick t p q ≡ fits v → (t ≡ true → p ≡ fits v → P) → (t ≡ false → q ≡ fits v → P) → P
by_choice true p q e f g = f refl e
by_choice false p q e f g = g refl e

module _ (kind bits v : ℕ) (e : bits < 256 ^ get_or kind_widths kind 0) where
  as_kind : (k : ℕ) → eqb kind k ≡ true → bits < 256 ^ get_or kind_widths k 0
  as_kind k t = rw (eqb-true kind k t) at e

  fits_unsigned : (c : ℕ) → encode_unsigned c kind bits ≡ fits v → v < 256 ^ width_of c
  unfolding encode_unsigned
  fits_unsigned c q =
      by_choice (both (leb kind 2) (ltb bits (256 ^ width_of c))) (fits bits) no_fit q
      (λ t r. rw (same_fits r) at (ltb-true bits (256 ^ width_of c) (both_right (leb kind 2) _ t))) (λ t r. no_fit_not r)

  fits_addr8 : encode_addr8 kind bits ≡ fits v → v < 256
  unfolding encode_addr8
  fits_addr8 q =
      by_choice (either (eqb kind 3) (eqb kind 0)) (fits bits) _ q
      (λ t r. let w = same_fits r in by_test (eqb kind 3) (λ y. omega (arith, as_kind 3 y)) (λ n. omega (arith, as_kind 0 (rw n at t))))
      (λ t r. by_choice (both (eqb kind 4) _) (fits (bits % 256)) no_fit r (λ u x. omega (arith, same_fits x)) (λ u x. no_fit_not x))

  extend_fits : bits < 256 → extend8 bits < 2 ^ 32
  extend_fits h = by_leb 128 bits (λ l. omega (arith, extend_large bits l h)) (λ l. omega (arith, extend_small bits l))

  four_bytes : leb kind 4 ≡ true → bits < 256 ^ 4
  four_bytes t =
      lt_of_lt_of_le e (pow-le-pow_right {n = 256} (omega arith) (leb-true (get_or kind_widths kind 0) 4 (every (λ k. leb (get_or kind_widths k 0) 4) 0 5 refl kind (omega arith) (omega (arith, leb-true kind 4 t)))))

  fits_signed32 : encode_signed32 kind bits ≡ fits v → v < 256 ^ 4
  unfolding encode_signed32
  fits_signed32 q =
      by_choice (eqb kind 3) (fits (extend8 bits)) _ q (λ t r. omega (arith, same_fits r, extend_fits (as_kind 3 t)))
      (λ t r. by_choice (leb kind 4) (fits bits) no_fit r (λ u x. omega (arith, same_fits x, four_bytes u)) (λ u x. no_fit_not x))

  fits_double : encode_double kind bits ≡ fits v → v < 256 ^ 8
  unfolding encode_double
  fits_double q = by_choice (eqb kind 5) (fits bits) no_fit q (λ t r. omega (arith, same_fits r, as_kind 5 t)) (λ t r. no_fit_not r)

  fits_class : (c : ℕ) → leb (family_of c) 3 ≡ true → encode_operand c kind bits ≡ fits v → v < 256 ^ width_of c
  unfolding encode_operand
  fits_class c f q = fits_unsigned c (rw f at q)

pub written_fits : (c : ℕ) → 0 < c → c ≤ 12 → (kind bits v : ℕ) → good_pair kind bits ≡ true → encode_operand c kind bits ≡ fits v → v < 256 ^ width_of c
unfolding encode_operand family_of width_of
written_fits c l h kind bits v g =
    let e = pair_bound kind bits g in
    by_class (λ n. encode_operand n kind bits ≡ fits v → v < 256 ^ width_of n) (λ n f k. fits_class kind bits v e n f)
    (fits_addr8 kind bits v e) (fits_signed32 kind bits v e) (fits_signed32 kind bits v e) (fits_double kind bits v e) c l h
