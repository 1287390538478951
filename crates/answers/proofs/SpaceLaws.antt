-- What an operation tells of the space it needs, and what a call for it answers. Assumes nothing.
use mathlib.Core.Path.{◌≡◌, refl, ap, sym, ◌∙◌}
use mathlib.Core.Bool.{Bool, true, false}
use mathlib.Core.List.{List, [], ◌∷◌}
use Prim.Native.Nat.{ℕ, ◌*◌, ◌/◌, ◌<◌, ◌≤◌}
use native.Mathlib.Omega.{arith}
use lib.ListN.{length, get_or}
use lib.Dec.{ltb}
use borrow.Author.Tests.{ltb-false}
use Rattle.lists.proofs.Tests.{true_not_false, by_leb}
use Rattle.answers.specs.Report.{Report, shortage, success, zeros, written}
use Rattle.answers.specs.Refusals.{refusal_report}
use Rattle.answers.specs.Outcome.{Outcome, Space, produced, sizes, needed, lent, exceeds, is_short, space_of, report}
use Rattle.answers.specs.Outcome.Outcome.{result, refused_with}
use Rattle.answers.specs.Space.{OutputUnit, need_in, no_need, needs, refuses, space_report, EntriesFor, NeedFound, Told}
use Rattle.answers.specs.Space.OutputUnit.{in_bytes, in_records}
use Rattle.answers.specs.declared.refusal.Refusal.{Refusal}
use Rattle.answers.specs.declared.space.Need.{Need}
use Rattle.answers.proofs.NumberLaws.{number_some, not_short}
use Rattle.answers.proofs.OutcomeLaws.{refused_end, small_end, few_end, result_end}

by_twenty : (k n : ℕ) → n ≡ 20 * k → k ≡ n / 20
by_twenty k n e = omega (arith, e)

numbers_of : {r s : Report} → r ≡ s → r.number ≡ s.number
numbers_of e = ap (λ (p : Report). p.number) e

-- what is no 19 tells nothing
refusal_differs : {P : Type 0} (f : Refusal) {r : Report} → r ≡ refusal_report f → r ≡ shortage → P
refusal_differs f e s = absurd (not_short f (numbers_of (sym e ∙ s)))

success_differs : {P : Type 0} {n : ℕ} → success n ≡ shortage → P
success_differs s = absurd (let z : 0 ≡ 19 = numbers_of s in omega (arith, z))

pub refused_told : {u : OutputUnit} {n : Need} (x : Outcome) (f : Refusal) (out entries after : List ℕ) (r : Report) → x ≡ refused_with f → r ≡ refusal_report f → after ≡ zeros out → Told u x out entries after r n
refused_told x f out entries after r e l z = record { ended = refused_end x f out entries after r e l z; tells = refusal_differs f l }

pub result_told : {u : OutputUnit} {m : Need} (n : ℕ) (t need out room : List ℕ) → length t ≤ length out → exceeds need room ≡ false → (after : List ℕ) → after ≡ written t out
    → Told u (produced n t need) out room after (success n) m
result_told n t need out room h e after w = record { ended = result_end n t need out room h e after w; tells = success_differs }

-- 19, with what was found
pub small_told : {u : OutputUnit} {m : Need} (n : ℕ) (t need out room : List ℕ) → length out < length t → NeedFound (get_or room 0 0) (need_in u (space_of (produced n t need))) m → (after : List ℕ) → after ≡ zeros out
    → Told u (produced n t need) out room after shortage m
small_told n t need out room h f after z = record { ended = small_end n t need out room h after z; tells = λ s. f }

pub few_told : {u : OutputUnit} {m : Need} (n : ℕ) (t need out room : List ℕ) → exceeds need room ≡ true → NeedFound (get_or room 0 0) (need_in u (space_of (produced n t need))) m → (after : List ℕ) → after ≡ zeros out
    → Told u (produced n t need) out room after shortage m
few_told n t need out room e f after z = record { ended = few_end n t need out room e after z; tells = λ s. f }

-- the figures of a result with one output of bytes and one figure of entries
pub bytes_found : {lent n k : ℕ} (len : ℕ) (t : List ℕ) (needed : ℕ) → k ≡ length t → EntriesFor lent needed n
    → NeedFound lent (need_in in_bytes (space_of (produced len t (needed ∷ [])))) (record { bytes = k; records = 0; labels = n })
unfolding need_in space_of sizes
bytes_found len t needed e c = record { bytes_are = e; records_are = refl; labels_are = c }

-- and of one of records, which needs no entries
pub records_found : {k : ℕ} (len : ℕ) (t : List ℕ) → length t ≡ 20 * k → NeedFound 0 (need_in in_records (space_of (produced len t []))) (record { bytes = 0; records = k; labels = 0 })
unfolding need_in space_of sizes
records_found {k} len t e = record { bytes_are = refl; records_are = by_twenty k (length t) e; labels_are = (omega arith, λ l. refl) }

-- what is not above a first figure
first_within : (ns room : List ℕ) → exceeds ns room ≡ false → get_or ns 0 0 ≤ get_or room 0 0
unfolding exceeds
first_within [] room e = omega arith
first_within (n ∷ ns) room e = by_case (ltb (get_or room 0 0) n) refl
  where
    by_case : (b : Bool) → ltb (get_or room 0 0) n ≡ b → n ≤ get_or room 0 0
    by_case true q = absurd (true_not_false _ (sym (rw q at e)) refl)
    by_case false q = ltb-false (get_or room 0 0) n q

both_within : (need room : Space) → is_short need room ≡ false → (get_or need.outputs 0 0 ≤ get_or room.outputs 0 0) × (get_or need.entries 0 0 ≤ get_or room.entries 0 0)
unfolding is_short
both_within need room e = by_case (exceeds need.outputs room.outputs) refl
  where
    by_case : (b : Bool) → exceeds need.outputs room.outputs ≡ b → (get_or need.outputs 0 0 ≤ get_or room.outputs 0 0) × (get_or need.entries 0 0 ≤ get_or room.entries 0 0)
    by_case true q = absurd (true_not_false _ (sym (rw q at e)) refl)
    by_case false q = (first_within need.outputs room.outputs q, first_within need.entries room.entries (rw q at e))

-- a need by its figures
same_need : {n m : Need} → n.bytes ≡ m.bytes → n.records ≡ m.records → n.labels ≡ m.labels → n ≡ m
same_need {n} {m} b r l =
    let w : Need = record { bytes = m.bytes; records = m.records; labels = m.labels } in
    let q : record { bytes = n.bytes; records = n.records; labels = n.labels } ≡ w = rw (b, r, l) refl in
    q

-- a space of which the first figures are 0
nothing_needed : (u : OutputUnit) (s : Space) → get_or s.outputs 0 0 ≤ 0 → get_or s.entries 0 0 ≤ 0 → need_in u s ≡ no_need
unfolding need_in
nothing_needed in_bytes s o e = same_need (omega (arith, o)) refl (omega (arith, e))
nothing_needed in_records s o e = same_need refl (omega (arith, o)) (omega (arith, e))

-- an operation that was lent nothing: what it answered is what its space function does
module _ {u : OutputUnit} {x : Outcome} {entries after : List ℕ} {r : Report} {n : Need} (none : get_or entries 0 0 ≡ 0) (e : Told u x [] entries after r n) where
  pub space_done : (k : ℕ) → r ≡ success k → space_report u x ≡ needs no_need
  unfolding space_report report space_of sizes
  space_done k q = by_outcome x refl
    where
      by_outcome : (y : Outcome) → x ≡ y → space_report u x ≡ needs no_need
      by_outcome (refused_with f) w = absurd (let z : 0 ≡ (refusal_report f).number = numbers_of {s = refusal_report f} (sym q ∙ e.ended.answer_is ∙ rw w refl) in omega (arith, number_some f, z))
      by_outcome (result y) w = by_case (is_short (needed y) (lent ([] ∷ []) entries)) refl
        where
          by_case : (b : Bool) → is_short (needed y) (lent ([] ∷ []) entries) ≡ b → space_report u x ≡ needs no_need
          by_case true h = success_differs (sym q ∙ e.ended.answer_is ∙ rw (w, h) refl)
          by_case false h =
              let f = both_within (needed y) (lent ([] ∷ []) entries) h in
              rw w (ap needs (nothing_needed u (needed y) f.0 (omega (arith, f.1, none))))

  pub space_refused : (f : Refusal) → r ≡ refusal_report f → space_report u x ≡ refuses (refusal_report f)
  unfolding space_report report
  space_refused f q = by_outcome x refl
    where
      by_outcome : (y : Outcome) → x ≡ y → space_report u x ≡ refuses (refusal_report f)
      by_outcome (refused_with g) w =
          let same : refusal_report f ≡ refusal_report g = sym q ∙ e.ended.answer_is ∙ rw w refl in
          rw w (ap refuses (sym same))
      by_outcome (result y) w = by_case (is_short (needed y) (lent ([] ∷ []) entries)) refl
        where
          by_case : (b : Bool) → is_short (needed y) (lent ([] ∷ []) entries) ≡ b → space_report u x ≡ refuses (refusal_report f)
          by_case true h = refusal_differs f q (e.ended.answer_is ∙ rw (w, h) refl)
          by_case false h = absurd (let z : (refusal_report f).number ≡ 0 = numbers_of {s = success y.length} (sym q ∙ e.ended.answer_is ∙ rw (w, h) refl) in omega (arith, number_some f, z))

  pub space_short : r ≡ shortage → space_report u x ≡ needs n
  unfolding space_report report
  space_short q = by_outcome x refl
    where
      by_outcome : (y : Outcome) → x ≡ y → space_report u x ≡ needs n
      by_outcome (refused_with g) w = let same : shortage ≡ refusal_report g = sym q ∙ e.ended.answer_is ∙ rw w refl in absurd (not_short g (numbers_of (sym same)))
      by_outcome (result y) w = rw w (ap needs (sym (exact_found (rw w at (e.tells q)))))
        where
          exact_found : {m : Need} → NeedFound (get_or entries 0 0) m n → n ≡ m
          exact_found {m} f = same_need f.bytes_are f.records_are (exact_labels f.labels_are.0 f.labels_are.1)
            where
              exact_labels : m.labels ≤ n.labels → (get_or entries 0 0 < n.labels → n.labels ≡ m.labels) → n.labels ≡ m.labels
              exact_labels a b = by_leb n.labels (get_or entries 0 0) (λ h. omega (arith, a, h, none)) b
