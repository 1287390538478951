-- A number of one, two or three digits with a space behind it. Assumes nothing.
use mathlib.Core.Path.{◌≡◌, refl, ap, sym, ◌∙◌}
use mathlib.Core.Bool.{true, false}
use mathlib.Core.List.{List, [], ◌∷◌, ◌++◌}
use Prim.Native.Nat.{ℕ, ◌+◌, ◌-◌, ◌*◌, ◌≤◌, ◌<◌}
use native.Mathlib.Omega.{arith}
use lib.Dec.{eqb, ltb}
use lib.ListN.{length, drop, take, get_or, take-append-drop, length-drop, drop_of_length-le}
use lib.Seq.{drop-cons, drop-drop, take-suc, get_or-drop}
use native.Mathlib.Numerals.{add-one}
use Rattle.std.specs.Prelude.{Option, Some}
use Rattle.lists.proofs.Parts.{part_at, part_length}
use borrow.Author.Tests.{ne_eqb, le-ltb}
use Rattle.lists.specs.Choice.{both}
use Rattle.lists.specs.Scan.{run, all, part}
use Rattle.lists.proofs.Scans.{run_stops, all_cons, all_append}
use Rattle.lists.proofs.Tests.{by_leb, within_least, within_most, both_no_right}
use Rattle.spec_numbers.specs.Parse.{digit_value, digits_value, unsigned_value}
use Rattle.spec_numbers.specs.Parse.Parsed.{is}
use Rattle.spec_numbers.proofs.ParseLaws.{value_of_digit, value_step}
use Rattle.spec_sheet.specs.Scan.{is_digit, number_at}
use Rattle.spec_sheet.specs.Scan.Step.{next}
use Rattle.spec_sheet.proofs.ScanLaws.{number_value}
use Rattle.sheet.specs.declared.scan.Reading.{Reading}

-- one digit more
digit_step : (n b : ℕ) (s : List ℕ) → is_digit b ≡ true → n * 10 + (b - 48) ≤ 255 → digits_value 10 255 n (b ∷ s) ≡ digits_value 10 255 (n * 10 + (b - 48)) s
digit_step n b s d h =
    let l = within_least 48 57 b d in
    let m = within_most 48 57 b d in
    let e : digit_value b ≡ b - 48 = value_of_digit b l m in
    rw e at (value_step 10 255 n b s (omega (arith, e, m)) (omega (arith, e)))

-- a number of one digit at least
some_digits : (ds : List ℕ) (b : ℕ) (t : List ℕ) (n : ℕ) → ds ≡ b ∷ t → digits_value 10 255 0 ds ≡ is n → unsigned_value 10 255 ds ≡ is n
unfolding unsigned_value
some_digits ds b t n e f = rw e (rw e at f)

-- a number that was read, told by its fields
pub short_told : (s : List ℕ) (at m n k : ℕ) {r : Reading} → number_at 255 s at ≡ next n k → m ≡ n → k ≤ at + 3 → ◌≡◌ {A = Option Reading} (Some (record { value = m; next = k })) (Some r)
    → (number_at 255 s at ≡ next r.value r.next) × (r.next ≤ at + 3)
short_told s at m n k {r} e f h g =
    let q : ◌≡◌ {A = Reading} (record { value = m; next = k }) r = cc g in
    (rw (sym f) at e ∙ ap (λ (t : Reading). next t.value t.next) q, omega (arith, h, ap (λ (t : Reading). t.next) q))

-- i digits were read, of those that stand in front of a space
pub record Going (s : List ℕ) (at size n i : ℕ) : Type 0 where
  pub few : i ≤ size
  pub small : n ≤ 255
  pub digits : all is_digit (part s at i) ≡ true
  pub left : digits_value 10 255 0 (part s at size) ≡ digits_value 10 255 n (drop i (part s at size))

module _ (s : List ℕ) (at size : ℕ) where
  pub start : Going s at size 0 0
  unfolding all
  start = record { few = omega arith; small = omega arith; digits = refl; left = refl }

  module _ (inside : at + size < length s) where
    part_here : (i : ℕ) → i < size → drop i (part s at size) ≡ get_or s (at + i) 0 ∷ drop (i + 1) (part s at size)
    part_here i l =
        let h : i < length (part s at size) = omega (arith, part_length s at size (omega arith)) in
        let e : get_or (part s at size) i 0 ≡ get_or s (at + i) 0 = part_at s at size i 0 l in
        drop-cons (part s at size) i 0 h ∙ rw (e, add-one i) refl

    more_digits : (i : ℕ) → i < size → all is_digit (part s at i) ≡ true → is_digit (get_or s (at + i) 0) ≡ true → all is_digit (part s at (i + 1)) ≡ true
    unfolding all
    more_digits i l e d =
        let t = drop at s in
        let h : i < length t = omega (arith, length-drop at s) in
        let q : get_or t i 0 ≡ get_or s (at + i) 0 = rw get_or-drop in
        rw (add-one i, take-suc t i 0 h) (all_append is_digit (take i t) (get_or t i 0 ∷ []) e (all_cons is_digit (get_or t i 0) [] (rw (sym q) at d) refl))

    pub turn : (n i m : ℕ) → Going s at size n i → i < size → is_digit (get_or s (at + i) 0) ≡ true → m ≡ n * 10 + (get_or s (at + i) 0 - 48) → m ≤ 255 → Going s at size m (i + 1)
    turn n i m g l d e h =
        record {
          few = omega arith;
          small = h;
          digits = more_digits i l g.digits d;
          left = g.left ∙ (rw (part_here i l, e) (digit_step n (get_or s (at + i) 0) (drop (i + 1) (part s at size)) d (omega (arith, e, h))));
        }

    pub short_read : (n : ℕ) → get_or s (at + size) 0 ≡ 32 → 0 < size → Going s at size n size → (1 < size → get_or s at 0 ≡ 48 → ⊥) → number_at 255 s at ≡ next n (at + size)
    unfolding digits_value
    short_read n space o g z =
        let ds = part s at size in
        let l : length ds ≡ size = part_length s at size (omega arith) in
        let t = drop (at + size + 1) s in
        let w : drop (at + size) s ≡ get_or s (at + size) 0 ∷ t = rw (add-one (at + size)) (drop-cons s (at + size) 0 inside) in
        let d : drop at s ≡ ds ++ 32 ∷ t = sym (take-append-drop size (drop at s)) ∙ ap (λ (r : List ℕ). ds ++ r) (drop-drop size at s ∙ (rw space at w)) in
        let r : run is_digit (drop at s) ≡ size = ap (run is_digit) d ∙ (run_stops is_digit ds 32 t g.digits refl ∙ l) in
        let v : digits_value 10 255 0 ds ≡ is n =
        let k : length ds ≤ size = omega (arith, l) in
        g.left ∙ rw (drop_of_length-le ds k) refl in
        let p : both (ltb 1 size) (eqb (get_or s at 0) 48) ≡ false =
        by_leb size 1 (λ h. rw (le-ltb 1 size h) refl) (λ h. both_no_right (ltb 1 size) _ (ne_eqb (get_or s at 0) 48 (z h))) in
        number_value s at size 255 n (sym r) p (some_digits ds _ _ n (part_here 0 o) v)
