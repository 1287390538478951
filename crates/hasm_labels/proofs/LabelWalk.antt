-- Laws of an index of labels: a label more, and a search along a chain. Assumes nothing.
use mathlib.Core.Path.{◌≡◌, refl, sym, ap, ◌∙◌}
use mathlib.Core.Bool.{Bool, true, false}
use mathlib.Core.List.{List, [], ◌∷◌, ◌++◌}
use Prim.Native.Nat.{ℕ, suc, ◌+◌, ◌-◌, ◌*◌, ◌/◌, ◌≤◌, ◌<◌}
use native.Mathlib.Numerals.{add-one}
use native.Mathlib.Omega.{arith}
use lib.ListN.{length, take, drop, get_or, replicate, length-append, get_or-append}
use lib.Seq.{take-length, take-suc, length-take-le, get_or-append-add}
use Rattle.std.specs.Prelude.{Some, None}
use Rattle.lists.specs.Choice.{pick}
use Rattle.lists.specs.Scan.{same}
use Rattle.lists.specs.Found.Found.{found, missing}
use Rattle.lists.proofs.Tests.{by_test, by_eqb}
use Rattle.lists.proofs.Scans.{same_eq}
use Rattle.slices.specs.Answers.{found_of}
use Rattle.spec_hasm.specs.Assemble.{LabelAt, label_offset}
use Rattle.hash_index.specs.Hash.{bucket_of}
use Rattle.hash_index.specs.Backward.{next_unit, WalkBack}
use Rattle.hash_index.proofs.BackwardLaws.{last_most, back_none, back_more, word_before, word_here, back_start, back_next}
use Rattle.hasm_labels.specs.Slots.{label_in, labels_in}
use Rattle.hasm_labels.specs.Keys.{label_of, label_at, no_label, bucket_at, LabelsIndexed, KeyPut, offset_below}
use Rattle.hasm_labels.specs.declared.label_entry.LabelPlace.{LabelPlace}
use Rattle.hasm_labels.proofs.LabelLaws.{labels_next, offset_more, offset_none}

-- the labels before one that is put behind them, and that one
module _ (ls : List LabelAt) (l : LabelAt) where
  label_before : (k : ℕ) → k < length ls → get_or (ls ++ (l ∷ [])) k no_label ≡ get_or ls k no_label
  label_before k h = get_or-append ls (l ∷ []) no_label k h

  label_last : get_or (ls ++ (l ∷ [])) (length ls) no_label ≡ l
  label_last = let z : length ls ≡ length ls + 0 = omega arith in ap (λ (k : ℕ). get_or (ls ++ (l ∷ [])) k no_label) z ∙ get_or-append-add ls (l ∷ []) 0 no_label

  one_longer : length (ls ++ (l ∷ [])) ≡ length ls + 1
  one_longer = length-append ls (l ∷ [])

-- no label is in the index yet
pub indexed_none : (owned : Bool) (text : List ℕ) (slots : List (List ℕ)) (index index' : List ℕ) (m : ℕ) → index' ≡ replicate m 0 ++ drop m index → 0 < m → m < 4294967296 → m ≤ length index
    → LabelsIndexed owned text slots index' m []
indexed_none owned text slots index index' m e s f r = record {
  some = s;
  few = f;
  lent = λ o. omega arith;
  held = λ k l. absurd (omega arith);
  chained = back_none (bucket_at m []) m index index' e r;
}

-- the heads of an index are at most as many as the labels
pub heads_small : {owned : Bool} {text : List ℕ} {slots : List (List ℕ)} {index : List ℕ} {m : ℕ} {ls : List LabelAt} → LabelsIndexed owned text slots index m ls → (h : ℕ) → h < m → get_or index h 0 ≤ length ls
heads_small {m = m} {ls} i h b = rw (i.chained.head_of h b) (last_most (bucket_at m ls) h (length ls))

-- a label more
module _ {owned : Bool} {text : List ℕ} {slots : List (List ℕ)} {index index' : List ℕ} {m : ℕ} {ls : List LabelAt} (l : LabelAt) (own : ℕ) (i : LabelsIndexed owned text slots index m ls)
    (p : KeyPut m (bucket_of m l.text) (length ls) own index index') where
  abbrev more : List LabelAt
  more = ls ++ (l ∷ [])

  bucket_before : (k : ℕ) → k < length ls → bucket_at m more k ≡ bucket_at m ls k
  unfolding bucket_at
  bucket_before k h = ap (λ (a : LabelAt). bucket_of m a.text) (label_before ls l k h)

  bucket_last : bucket_of m l.text ≡ bucket_at m more (length ls)
  unfolding bucket_at
  bucket_last = ap (λ (a : LabelAt). bucket_of m a.text) (sym (label_last ls l))

  pub indexed_more : (owned ≡ false → length ls < length slots) → label_at owned text slots (length ls) (own + get_or index (bucket_of m l.text) 0 * next_unit) ≡ l → LabelsIndexed owned text slots index' m more
  indexed_more s here =
      let before = word_before (bucket_at m ls) (bucket_at m more) m (length ls) (bucket_of m l.text) own index index' i.chained bucket_before bucket_last p.bucket p.room p.small p.put in
      let last = word_here (bucket_at m ls) (bucket_at m more) m (length ls) (bucket_of m l.text) own index index' i.chained bucket_before bucket_last p.bucket p.room p.small p.put in
      record {
        some = i.some;
        few = i.few;
        lent = λ o. omega (arith, one_longer ls l, s o);
        held = λ k h. by_eqb k (length ls)
            (λ e. rw (e, last, label_last ls l) here)
            (λ e. let b : k < length ls = omega (arith, e, one_longer ls l) in rw (before k b, label_before ls l k b) (i.held k b));
        chained = rw (one_longer ls l) (back_more (bucket_at m ls) (bucket_at m more) m (length ls) (bucket_of m l.text) own index index' i.chained bucket_before bucket_last p.bucket p.room p.small p.put);
      }

-- the labels of slots, which the slots hold
labels_count : (text : List ℕ) (slots : List (List ℕ)) → length (labels_in text slots) ≡ length slots
unfolding labels_in
labels_count text [] = refl
labels_count text (s ∷ slots) = ap suc (labels_count text slots)

module _ (text : List ℕ) (slots : List (List ℕ)) (index : List ℕ) (m k : ℕ) (i : LabelsIndexed false text slots index m (labels_in text (take k slots))) (r : k ≤ length slots) where
  slot_count : length (labels_in text (take k slots)) ≡ k
  slot_count = labels_count text (take k slots) ∙ length-take-le k slots r

  pub slot_heads : (h : ℕ) → h < m → get_or index h 0 ≤ k
  slot_heads h b = omega (arith, heads_small i h b, slot_count)

  pub slot_more : (index' : List ℕ) → k < length slots → KeyPut m (bucket_of m (label_in text (get_or slots k [])).text) k 0 index index' → LabelsIndexed false text slots index' m (labels_in text (take (k + 1) slots))
  slot_more index' l p =
      rw (add-one k, labels_next text slots k l)
      (indexed_more (label_in text (get_or slots k [])) 0 i (rw slot_count p) (λ o. omega (arith, slot_count)) (ap (λ (j : ℕ). label_in text (get_or slots j [])) slot_count))

-- a search
module _ (ls : List LabelAt) (t : List ℕ) where
  -- the last of the first k + 1 labels is found, or the search goes on before it
  label_step : (k : ℕ) → k < length ls → offset_below ls t (k + 1) ≡ pick (same (get_or ls k no_label).text t) (found (get_or ls k no_label).offset) (offset_below ls t k)
  label_step k h = rw (add-one k, take-suc ls k no_label h) (offset_more (take k ls) (get_or ls k no_label) t)

  -- a search through the first of all labels is one through all
  all_labels : offset_below ls t (length ls) ≡ label_offset ls t
  all_labels = rw (take-length ls)

  module _ {owned : Bool} {text : List ℕ} {slots : List (List ℕ)} {index : List ℕ} {m : ℕ} (i : LabelsIndexed owned text slots index m ls) (h : ℕ) (e : h ≡ bucket_of m t) (b : h < m) where
    -- a label that has the text is in the text's bucket, so one in another bucket is passed over
    passed : (k : ℕ) → k < length ls → (bucket_at m ls k ≡ h → ⊥) → offset_below ls t (k + 1) ≡ offset_below ls t k
    unfolding bucket_at
    passed k l z =
        let own = (get_or ls k no_label).text in
        label_step k l ∙ rw (by_test (same own t) (λ q. absurd (z (ap (bucket_of m) (same_eq own t q) ∙ sym e))) (λ q. q))

    pub label_start : WalkBack (bucket_at m ls) (length ls) h (offset_below ls t) (get_or index h 0)
    label_start = back_start (bucket_at m ls) m (length ls) index i.chained h (offset_below ls t) b passed

    -- the label in front of k, as it was read
    module _ (k : ℕ) (w : WalkBack (bucket_at m ls) (length ls) h (offset_below ls t) k) (l : 0 < k) (r : LabelPlace) (q : label_of text r ≡ label_at owned text slots (k - 1) (get_or index (m + (k - 1)) 0)) where
      here : offset_below ls t k ≡ pick (same (label_of text r).text t) (found r.offset) (offset_below ls t (k - 1))
      here =
          let o : k - 1 < length ls = omega (arith, w.reached) in
          let z : k ≡ k - 1 + 1 = omega arith in
          ap (offset_below ls t) z ∙ label_step (k - 1) o ∙ ap (λ (a : LabelAt). pick (same a.text t) (found a.offset) (offset_below ls t (k - 1))) (sym (q ∙ i.held (k - 1) o))

      pub label_found : same (label_of text r).text t ≡ true → Some r.offset ≡ found_of (label_offset ls t)
      label_found p =
          let z : label_offset ls t ≡ found r.offset = sym all_labels ∙ w.same_answer ∙ here ∙ rw p in
          sym (ap found_of z)

      pub label_next : same (label_of text r).text t ≡ false → WalkBack (bucket_at m ls) (length ls) h (offset_below ls t) (get_or index (m + (k - 1)) 0 / next_unit)
      label_next p = back_next (bucket_at m ls) m (length ls) index i.chained h (offset_below ls t) b passed k w l (here ∙ rw p)

  -- the end of the chain
  pub label_nowhere : (m h k : ℕ) → WalkBack (bucket_at m ls) (length ls) h (offset_below ls t) k → k ≤ 0 → None ≡ found_of (label_offset ls t)
  label_nowhere m h k w l =
      let z : k ≡ 0 = omega arith in
      let y : label_offset ls t ≡ missing = sym all_labels ∙ w.same_answer ∙ rw z (offset_none t) in
      sym (ap found_of y)
