-- Laws of the labels that instructions take. Assumes nothing.
use mathlib.Core.Path.{◌≡◌, refl, ap, sym, ◌∙◌}
use mathlib.Core.Bool.{true, false}
use Prim.Native.Nat.{ℕ, suc, ◌+◌, ◌≤◌, ◌<◌}
use native.Mathlib.Numerals.{add-one}
use native.Mathlib.Omega.{arith}
use mathlib.Core.List.{List, [], ◌∷◌, ◌++◌, append-nil}
use lib.ListN.{length, take, drop, set, length-set, length-append}
use lib.Seq.{take_all, take-suc-set, take-append-le, set_out, drop-set-lt, drop-drop}
use Rattle.std.specs.Prelude.{Some, None}
use Rattle.std.specs.Option.{is_some}
use Rattle.lists.specs.Choice.{pick}
use Rattle.lists.specs.Scan.{same, part}
use Rattle.lists.specs.Found.Found.{found}
use Rattle.slices.specs.Answers.{found_of}
use Rattle.lists.proofs.Tests.{by_test, by_leb, true_not_false}
use Rattle.spec_hasm.specs.Assemble.{LabelLine, LabelAt, holding, label_offset}
use Rattle.hasm_labels.specs.Slots.{label_in, labels_in}
use Rattle.hasm_labels.specs.LongLabels.{is_long, long_of}
use Rattle.hasm_labels.specs.Holding.{part_in, waiting_label, Waits, Noted, LongMore, Held}
use Rattle.hasm_labels.specs.Holding.LongMore.{none, one}
use Rattle.hasm_labels.specs.declared.hold_label.Progress.{Progress}
use Rattle.hasm_labels.specs.declared.hold_label.LabelPart.{LabelPart}
use Rattle.hasm_labels.proofs.LabelLaws.{offset_more, labels_more}
use Rattle.hasm_labels.proofs.LongLaws.{long_more, long_same}

-- no label waits
holding_none : (text : List ℕ) (p : Progress) (w : List LabelLine) → Waits text p w → p.waiting ≡ None → holding w p.offset [] ≡ []
unfolding holding
holding_none text p [] h e = refl
holding_none text p (l ∷ ls) h e = true_not_false (is_some p.waiting) h.0 (ap is_some e)

pub held_none : (text t : List ℕ) (slots : List (List ℕ)) (p : Progress) → p.waiting ≡ None → Held text t slots p slots p
held_none text t slots p e =
    record {
      noted = λ slots₀ w u labels h. rw (holding_none text p w u e, append-nil labels) h;
      long = λ w u labels. none refl (ap long_of (ap (λ (ls : List LabelAt). labels ++ ls) (holding_none text p w u e) ∙ append-nil labels));
      offset = refl;
      count = omega arith;
      kept = omega arith;
      place = λ n a b. b;
    }

holding_one : (text : List ℕ) (p : Progress) (w : List LabelLine) → Waits text p w → is_some p.waiting ≡ true → holding w p.offset [] ≡ waiting_label text p ∷ []
unfolding holding
holding_one text p [] h e = true_not_false (is_some p.waiting) e (ap is_some h)
holding_one text p (l ∷ ls) h e = rw h.1 refl

-- the k + 1st of labels goes to the slot behind the first k, where there is one
module _ (text : List ℕ) (slots : List (List ℕ)) (labels : List LabelAt) (slot : List ℕ) (k : ℕ) (h : k ≡ length labels) (s : labels_in text (take k slots) ≡ take (length slots) labels) where
  stored_room : k < length slots → labels_in text (take (suc k) (set slots k slot)) ≡ take (length (set slots k slot)) (labels ++ (label_in text slot ∷ []))
  stored_room l =
      let all : labels_in text (take k slots) ≡ labels = s ∙ take_all (length slots) labels (omega arith) in
      let fits : length (labels ++ (label_in text slot ∷ [])) ≤ length slots = omega (arith, length-append labels (label_in text slot ∷ [])) in
      rw (length-set slots k slot, take-suc-set slots k slot l, labels_more text (take k slots) slot, all, take_all (length slots) (labels ++ (label_in text slot ∷ [])) fits)

  stored_full : length slots ≤ k → labels_in text (take (suc k) (set slots k slot)) ≡ take (length (set slots k slot)) (labels ++ (label_in text slot ∷ []))
  stored_full l =
      rw (set_out slots k slot l, take-append-le (length slots) labels (label_in text slot ∷ []) (omega arith), take_all (suc k) slots (omega arith))
      (rw (take_all k slots l) at s)

  stored_more : labels_in text (take (suc k) (set slots k slot)) ≡ take (length (set slots k slot)) (labels ++ (label_in text slot ∷ []))
  stored_more = by_leb (length slots) k stored_full stored_room

-- and the slots behind it are as they were
kept_more : (slots slots₀ : List (List ℕ)) (slot : List ℕ) (k : ℕ) → drop k slots ≡ drop k slots₀ → drop (k + 1) (set slots k slot) ≡ drop (k + 1) slots₀
kept_more slots slots₀ slot k h =
    drop-set-lt (k + 1) slots k slot (omega arith) ∙ sym (drop-drop 1 k slots) ∙ ap (drop 1) h ∙ drop-drop 1 k slots₀

-- a label waits: it is stored behind the others, if it is long, and p' counts it
module _ (text t : List ℕ) (slots slots' : List (List ℕ)) (p p' : Progress) (w : is_some p.waiting ≡ true) where
  abbrev own : List ℕ
  own = (part_in p.waiting).start ∷ (part_in p.waiting).size ∷ p.offset ∷ []

  abbrev own_text : List ℕ
  own_text = part text (part_in p.waiting).start (part_in p.waiting).size

  module _ (k : p'.kept ≡ pick (is_long own_text) (p.kept + 1) p.kept) (s : slots' ≡ pick (is_long own_text) (set slots p.kept own) slots) (c : p'.count ≡ p.count + 1) where
    at_most : p'.kept ≤ p.kept + 1
    at_most = by_test (is_long own_text) (λ e. omega (arith, rw e at k)) (λ e. omega (arith, rw e at k))

    long_one : (waiting : List LabelLine) → Waits text p waiting → (labels : List LabelAt) → LongMore text p p' (long_of labels) (long_of (labels ++ holding waiting p.offset []))
    long_one waiting u labels =
        rw (holding_one text p waiting u w)
        (by_test (is_long own_text)
        (λ e. one (rw e at k) (long_more (waiting_label text p) e labels))
        (λ e. none (rw e at k) (long_same (waiting_label text p) e labels)))

    one_more : (slots₀ : List (List ℕ)) (waiting : List LabelLine) → Waits text p waiting → (labels : List LabelAt) → Noted text t slots₀ labels p slots
        → p'.place ≡ found_of (label_offset (labels ++ (waiting_label text p ∷ [])) t) → Noted text t slots₀ (labels ++ holding waiting p.offset []) p' slots'
    one_more slots₀ waiting u labels h l =
        let counted = c ∙ ap (λ (n : ℕ). n + 1) h.counted ∙ sym (length-append labels (waiting_label text p ∷ [])) in
        rw (holding_one text p waiting u w)
        (by_test (is_long own_text)
        (λ e.
        let more = long_more (waiting_label text p) e labels in
        let kept = rw e at k in
        let stored = rw e at s in
        record {
          counted = counted;
          last = l;
          long = rw (more, length-append (long_of labels) (waiting_label text p ∷ []), kept, h.long);
          stored = rw (more, kept, stored, add-one p.kept) (stored_more text slots (long_of labels) own p.kept h.long h.stored);
          behind = rw (kept, stored) (kept_more slots slots₀ own p.kept h.behind);
        })
        (λ e.
        let more = long_same (waiting_label text p) e labels in
        let kept = rw e at k in
        let stored = rw e at s in
        record {
          counted = counted;
          last = l;
          long = rw (more, kept) h.long;
          stored = rw (more, kept, stored) h.stored;
          behind = rw (kept, stored) h.behind;
        }))

    pub held_same : same own_text t ≡ true → p'.place ≡ Some p.offset → p'.offset ≡ p.offset → Held text t slots p slots' p'
    held_same e f o =
        record {
          noted = λ slots₀ waiting u labels h.
              let z : label_offset (labels ++ (waiting_label text p ∷ [])) t ≡ found p.offset = offset_more labels (waiting_label text p) t ∙ rw e in
              one_more slots₀ waiting u labels h (f ∙ sym (ap found_of z));
          long = long_one;
          offset = o;
          count = omega (arith, c);
          kept = at_most;
          place = λ n a b. rw f a;
        }

    pub held_other : same own_text t ≡ false → p'.place ≡ p.place → p'.offset ≡ p.offset → Held text t slots p slots' p'
    held_other e f o =
        record {
          noted = λ slots₀ waiting u labels h.
              let z : label_offset (labels ++ (waiting_label text p ∷ [])) t ≡ label_offset labels t = offset_more labels (waiting_label text p) t ∙ rw e in
              one_more slots₀ waiting u labels h (f ∙ h.last ∙ sym (ap found_of z));
          long = long_one;
          offset = o;
          count = omega (arith, c);
          kept = at_most;
          place = λ n a b. rw f b;
        }

-- the same, by the part of the text where the label stands
module _ (text t : List ℕ) (slots slots' : List (List ℕ)) (p p' : Progress) (q : LabelPart) (u : p.waiting ≡ Some q) (k : p'.kept ≡ pick (is_long (part text q.start q.size)) (p.kept + 1) p.kept)
    (s : slots' ≡ pick (is_long (part text q.start q.size)) (set slots p.kept (q.start ∷ q.size ∷ p.offset ∷ [])) slots) (c : p'.count ≡ p.count + 1) where
  here : q ≡ part_in p.waiting
  here = sym (ap part_in u)

  pub part_same : same (part text q.start q.size) t ≡ true → p'.place ≡ Some p.offset → p'.offset ≡ p.offset → Held text t slots p slots' p'
  part_same e f o = held_same text t slots slots' p p' (ap is_some u) (rw here at k) (rw here at s) c (rw here at e) f o

  pub part_other : same (part text q.start q.size) t ≡ false → p'.place ≡ p.place → p'.offset ≡ p.offset → Held text t slots p slots' p'
  part_other e f o = held_other text t slots slots' p p' (ap is_some u) (rw here at k) (rw here at s) c (rw here at e) f o
