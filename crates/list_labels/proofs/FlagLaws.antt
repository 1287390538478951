-- What notes say of the offsets that were noted: flags, the near offsets' count, and the far ones. Assumes nothing.
use mathlib.Core.Path.{◌≡◌, refl, ap, sym, ◌∙◌}
use mathlib.Core.Bool.{Bool, true, false}
use mathlib.Core.List.{List, [], ◌∷◌, ◌++◌, append_assoc, append-nil}
use Prim.Native.Nat.{ℕ, suc, ◌≤◌, ◌<◌}
use native.Mathlib.Omega.{arith}
use lib.Dec.{eqb}
use lib.ListN.{length, get_or, set, take, replicate, length-set, length-append, get_or-replicate}
use lib.Seq.{get_or-set_same, get_or-set_other, take-suc-set}
use borrow.Author.Tests.{eq-eqb, ne_eqb}
use Rattle.lists.specs.Choice.{pick, either}
use Rattle.lists.proofs.Tests.{by_test, by_eqb, by_leb}
use Rattle.spec_listing.specs.Labels.{among, different}
use Rattle.list_labels.specs.Parts.{below, above, within}
use Rattle.list_labels.proofs.DifferentLaws.{among_append, among_one, different_more}
use Rattle.list_labels.proofs.PartLaws.{below_append, above_append, below_low, below_high, above_low, above_high, among_below}
use Rattle.list_labels.specs.Notes.{Notes, with_flag, with_far, note, note_all}
use Rattle.list_labels.specs.Collecting.{Flagged, unnoted}
use Rattle.list_labels.proofs.NoteLaws.{by_way}

-- what each offset keeps holds of all
pub all_steps : (P : List ℕ → Notes → Type 0) → ((k : List ℕ) (n : Notes) (x : ℕ) → P k n → P (k ++ (x ∷ [])) (note n x))
    → (k : List ℕ) (n : Notes) (l : List ℕ) → P k n → P (k ++ l) (note_all n l)
unfolding note_all
all_steps P s k n [] p = rw (append-nil k) p
all_steps P s k n (x ∷ l) p = rw (sym (append_assoc k (x ∷ []) l)) (all_steps P s (k ++ (x ∷ [])) (note n x) l (s k n x p))

-- an offset more
module _ (k : List ℕ) (i x : ℕ) where
  among_more : among i (k ++ (x ∷ [])) ≡ either (among i k) (eqb i x)
  among_more = rw (among_append i k (x ∷ []), among_one i x)

  more_other : (i ≡ x → ⊥) → among i (k ++ (x ∷ [])) ≡ among i k
  more_other h = among_more ∙ rw (ne_eqb i x h) (go (among i k))
    where
      go : (p : Bool) → either p false ≡ p
      go true = refl
      go false = refl

  more_here : i ≡ x → among i (k ++ (x ∷ [])) ≡ true
  more_here h = among_more ∙ rw (eq-eqb i x h) (go (among i k))
    where
      go : (p : Bool) → either p true ≡ true
      go true = refl
      go false = refl

-- whether an offset is a label, by a mark of 1 or 0
module _ (v : ℕ) (p : Bool) (e : v ≡ pick p 1 0) where
  pub was_there : (v ≡ 0 → ⊥) → p ≡ true
  was_there h = by_test p (λ q. q) (λ q. absurd (h (e ∙ rw q)))

  pub was_not : v ≡ 0 → p ≡ false
  was_not h = by_test p (λ q. absurd (let z : ◌≡◌ {A = ℕ} 1 0 = sym (e ∙ rw q) ∙ h in omega arith)) (λ q. q)

-- the flags
module _ (k : List ℕ) (n : Notes) (x : ℕ) (m : Flagged k n.flags) where
  marked_new : x < length n.flags → Flagged (k ++ (x ∷ [])) (set n.flags x true)
  marked_new h i l =
      by_eqb i x
      (λ e. rw (more_here k i x e, e) (get_or-set_same n.flags x true false h))
      (λ e. rw (more_other k i x e) (get_or-set_other n.flags x i true false e ∙ m i (omega (arith, l, length-set n.flags x true))))

  marked_seen : get_or n.flags x false ≡ true → x < length n.flags → Flagged (k ++ (x ∷ [])) n.flags
  marked_seen s h i l =
      by_eqb i x
      (λ e. rw (more_here k i x e, e) s)
      (λ e. rw (more_other k i x e) (m i l))

  marked_far : length n.flags ≤ x → Flagged (k ++ (x ∷ [])) n.flags
  marked_far h i l = rw (more_other k i x (λ e. omega arith)) (m i l)

  pub marked_step : Flagged (k ++ (x ∷ [])) (note n x).flags
  marked_step =
      by_way n x (λ (n' : Notes). Flagged (k ++ (x ∷ [])) n'.flags)
      (λ h e. marked_new h)
      (λ h e. marked_seen e h)
      (λ h l k. marked_far h)
      (λ h l. marked_far h)
      (λ h k. marked_far h)

-- the near offsets are marked and counted
pub record Near (room : ℕ) (k : List ℕ) (n : Notes) : Type 0 where
  pub size : length n.flags ≡ room
  pub marked : Flagged k n.flags
  pub count : n.near ≡ different (below room k)

module _ (room : ℕ) (k : List ℕ) (n : Notes) (x : ℕ) (g : Near room k n) where
  below_near : x < room → below room (k ++ (x ∷ [])) ≡ below room k ++ (x ∷ [])
  unfolding below
  below_near h = below_append room k (x ∷ []) ∙ ap (λ (l : List ℕ). below room k ++ l) (below_low room x [] h)

  below_far : room ≤ x → below room (k ++ (x ∷ [])) ≡ below room k
  unfolding below
  below_far h = below_append room k (x ∷ []) ∙ (ap (λ (l : List ℕ). below room k ++ l) (below_high room x [] h) ∙ append-nil (below room k))

  -- how many different near offsets there are then
  more : x < room → different (below room (k ++ (x ∷ []))) ≡ pick (among x k) (different (below room k)) (suc (different (below room k)))
  more h = ap different (below_near h) ∙ (different_more (below room k) x ∙ rw (among_below room x k h))

  near_new : x < length n.flags → get_or n.flags x false ≡ false → Near room (k ++ (x ∷ [])) (with_flag n x)
  near_new h e =
      let b : x < room = omega (arith, g.size) in
      record {
        size = length-set n.flags x true ∙ g.size;
        marked = marked_new k n x g.marked h;
        count = rw (more b, sym (g.marked x h) ∙ e) (ap suc g.count);
      }

  near_seen : x < length n.flags → get_or n.flags x false ≡ true → Near room (k ++ (x ∷ [])) n
  near_seen h e =
      let b : x < room = omega (arith, g.size) in
      record {
        size = g.size;
        marked = marked_seen k n x g.marked e h;
        count = rw (more b, sym (g.marked x h) ∙ e) g.count;
      }

  near_past : length n.flags ≤ x → n.near ≡ different (below room (k ++ (x ∷ [])))
  near_past h = g.count ∙ sym (ap different (below_far (omega (arith, g.size))))

  near_far : length n.flags ≤ x → Near room (k ++ (x ∷ [])) (with_far n x)
  near_far h = record { size = g.size; marked = marked_far k n x g.marked h; count = near_past h }

  near_out : length n.flags ≤ x → Near room (k ++ (x ∷ [])) n
  near_out h = record { size = g.size; marked = marked_far k n x g.marked h; count = near_past h }

  pub near_step : Near room (k ++ (x ∷ [])) (note n x)
  near_step = by_way n x (Near room (k ++ (x ∷ []))) near_new near_seen (λ h l q. near_far h) (λ h l. near_out h) (λ h q. near_out h)

-- the far ones of a range past the flags are counted, and stored where there is room for all
pub record Far (low high : ℕ) (k : List ℕ) (n : Notes) : Type 0 where
  pub is_low : n.low ≡ low
  pub is_high : n.high ≡ high
  pub past : length n.flags ≤ low
  pub count : n.far ≡ length (within low high k)
  pub kept : n.far ≤ length n.stored → take n.far n.stored ≡ within low high k

module _ (low high : ℕ) (k : List ℕ) (n : Notes) (x : ℕ) (g : Far low high k n) where
  within_more : within low high (k ++ (x ∷ [])) ≡ within low high k ++ within low high (x ∷ [])
  within_more = ap (above low) (below_append high k (x ∷ [])) ∙ above_append low (below high k) (below high (x ∷ []))

  one_out : within low high (x ∷ []) ≡ [] → within low high (k ++ (x ∷ [])) ≡ within low high k
  one_out e = within_more ∙ (ap (λ (l : List ℕ). within low high k ++ l) e ∙ append-nil (within low high k))

  front_out : x < low → within low high (x ∷ []) ≡ []
  unfolding below above
  front_out h = by_leb high x (λ q. rw (below_high high x [] q)) (λ q. rw (below_low high x [] q, above_low low x [] h))

  past_out : high ≤ x → within low high (x ∷ []) ≡ []
  unfolding below above
  past_out h = rw (below_high high x [] h)

  one_in : low ≤ x → x < high → within low high (k ++ (x ∷ [])) ≡ within low high k ++ (x ∷ [])
  unfolding below above
  one_in h q = within_more ∙ ap (λ (l : List ℕ). within low high k ++ l) (rw (below_low high x [] q, above_high low x [] h))

  -- an offset outside the range changes nothing
  far_out : within low high (x ∷ []) ≡ [] → Far low high (k ++ (x ∷ [])) n
  far_out e = record { is_low = g.is_low; is_high = g.is_high; past = g.past; count = rw (one_out e) g.count; kept = λ f. rw (one_out e) (g.kept f) }

  far_new : x < length n.flags → get_or n.flags x false ≡ false → Far low high (k ++ (x ∷ [])) (with_flag n x)
  far_new h e =
      let o = one_out (front_out (omega (arith, g.past, h))) in
      record { is_low = g.is_low; is_high = g.is_high; past = omega (arith, length-set n.flags x true, g.past); count = rw o g.count; kept = λ f. rw o (g.kept f) }

  far_more : length n.flags ≤ x → n.low ≤ x → x < n.high → Far low high (k ++ (x ∷ [])) (with_far n x)
  far_more h l q =
      let b = one_in (omega (arith, g.is_low)) (omega (arith, g.is_high)) in
      record {
        is_low = g.is_low;
        is_high = g.is_high;
        past = g.past;
        count = rw b (omega (arith, g.count, length-append (within low high k) (x ∷ [])));
        kept = λ f.
            let r : n.far < length n.stored = omega (arith, f, length-set n.stored n.far x) in
            take-suc-set n.stored n.far x r ∙ rw (g.kept (omega arith), b);
      }

  pub far_step : Far low high (k ++ (x ∷ [])) (note n x)
  far_step =
      by_way n x (Far low high (k ++ (x ∷ [])))
      far_new
      (λ h e. far_out (front_out (omega (arith, g.past, h))))
      far_more
      (λ h l. far_out (front_out (omega (arith, g.is_low))))
      (λ h q. far_out (past_out (omega (arith, g.is_high))))

-- before a walk
pub near_start : (flags : List Bool) (stored : List ℕ) (low high : ℕ) → flags ≡ replicate (length flags) false → Near (length flags) [] (unnoted flags stored low high)
unfolding below among different
near_start flags stored low high e = record {
  size = refl;
  marked = λ i l. ap (λ (m : List Bool). get_or m i false) e ∙ get_or-replicate (length flags) i false false l;
  count = refl;
}

pub far_start : (flags : List Bool) (stored : List ℕ) (low high : ℕ) → length flags ≤ low → Far low high [] (unnoted flags stored low high)
unfolding below above
far_start flags stored low high h = record { is_low = refl; is_high = refl; past = h; count = refl; kept = λ f. refl }

-- and behind it
module _ (flags : List Bool) (stored l : List ℕ) (low high : ℕ) where
  pub near_all : flags ≡ replicate (length flags) false → Near (length flags) l (note_all (unnoted flags stored low high) l)
  near_all e = all_steps (Near (length flags)) (near_step (length flags)) [] (unnoted flags stored low high) l (near_start flags stored low high e)

  pub far_all : length flags ≤ low → Far low high l (note_all (unnoted flags stored low high) l)
  far_all h = all_steps (Far low high) (far_step low high) [] (unnoted flags stored low high) l (far_start flags stored low high h)
