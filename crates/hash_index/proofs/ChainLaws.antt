-- Laws of an index of chains: how it is built from the last index down, and how a chain is walked. Assumes nothing.
use mathlib.Core.Path.{◌≡◌, refl, sym, ap, ◌∙◌}
use mathlib.Core.List.{List, ◌++◌}
use Prim.Native.Nat.{ℕ, zero, suc, ◌+◌, ◌-◌, ◌≤◌, ◌<◌}
use native.Mathlib.Numerals.{add-one}
use native.Mathlib.Omega.{arith}
use borrow.Author.Tests.{eq-eqb, ne_eqb}
use lib.ListN.{length, take, drop, get_or, set, replicate, length-set, length-take, length-drop, length-replicate, get_or-replicate}
use lib.Seq.{get_or-set_same, get_or-set_other, get_or-take, get_or-drop, take_at, drop_at, take-set-lt, take-set-le, drop-set-lt, drop-set-add}
use Rattle.lists.proofs.Tests.{by_eqb}
use Rattle.hash_index.specs.Chain.{first_from, first_with, Chained, ChainedIn, Walk}

module _ (hash : ℕ → ℕ) (h : ℕ) where
  -- the clauses, by their test
  from_here : (k m : ℕ) → hash k ≡ h → first_from hash h k (suc m) ≡ k
  unfolding first_from
  from_here k m e = rw (eq-eqb (hash k) h e, first_from)

  from_next : (k m : ℕ) → (hash k ≡ h → ⊥) → first_from hash h k (suc m) ≡ first_from hash h (suc k) m
  unfolding first_from
  from_next k m e = rw (ne_eqb (hash k) h e, first_from)

  from_none : (k : ℕ) → first_from hash h k 0 ≡ k
  unfolding first_from
  from_none k = refl

  -- the first lies from k on, and not behind the end; below the end it has the hash
  from_least : (k m : ℕ) → k ≤ first_from hash h k m
  from_least k zero = rw (from_none k) (omega arith)
  from_least k (suc m) =
      by_eqb (hash k) h
      (λ e. rw (from_here k m e) (omega arith))
      (λ e. rw (from_next k m e) (omega (arith, from_least (suc k) m)))

  from_most : (k m : ℕ) → first_from hash h k m ≤ k + m
  from_most k zero = rw (from_none k) (omega arith)
  from_most k (suc m) =
      by_eqb (hash k) h
      (λ e. rw (from_here k m e) (omega arith))
      (λ e. rw (from_next k m e) (omega (arith, from_most (suc k) m)))

  from_hash : (k m : ℕ) → first_from hash h k m < k + m → hash (first_from hash h k m) ≡ h
  from_hash k zero l = absurd (omega (arith, rw (from_none k) at l))
  from_hash k (suc m) l =
      by_eqb (hash k) h
      (λ e. rw (from_here k m e) e)
      (λ e. rw (from_next k m e) (from_hash (suc k) m (omega (arith, rw (from_next k m e) at l))))

  -- what no other hash changes is the same from the first on
  from_skip : {A : Type 0} (answer : ℕ → A) (n : ℕ) → ((i : ℕ) → i < n → (hash i ≡ h → ⊥) → answer i ≡ answer (i + 1)) → (k m : ℕ) → k + m ≡ n → answer k ≡ answer (first_from hash h k m)
  from_skip answer n f k zero q = rw (from_none k) refl
  from_skip answer n f k (suc m) q =
      by_eqb (hash k) h
      (λ e. rw (from_here k m e) refl)
      (λ e. rw (from_next k m e) (f k (omega arith) e ∙ ap answer (add-one k) ∙ from_skip answer n f (suc k) m (omega arith)))

  module _ (n k : ℕ) where
    -- no index is left
    pub first_end : n ≤ k → first_with hash h n k ≡ k
    unfolding first_with
    first_end l = let z : n - k ≡ 0 = omega arith in rw z (from_none k)

    -- the next index has the hash, or another
    pub first_here : k < n → hash k ≡ h → first_with hash h n k ≡ k
    unfolding first_with
    first_here l e = let z : n - k ≡ suc (n - (k + 1)) = omega arith in rw z (from_here k _ e)

    pub first_next : k < n → (hash k ≡ h → ⊥) → first_with hash h n k ≡ first_with hash h n (k + 1)
    unfolding first_with
    first_next l e =
        let z : n - k ≡ suc (n - (k + 1)) = omega arith in
        rw z (from_next k _ e) ∙ ap (λ (i : ℕ). first_from hash h i (n - (k + 1))) (sym (add-one k))

    pub first_least : k ≤ first_with hash h n k
    unfolding first_with
    first_least = from_least k (n - k)

    pub first_most : k ≤ n → first_with hash h n k ≤ n
    unfolding first_with
    first_most l = omega (arith, from_most k (n - k))

    pub first_hash : k ≤ n → first_with hash h n k < n → hash (first_with hash h n k) ≡ h
    unfolding first_with
    first_hash l b = from_hash k (n - k) (omega arith)

    first_skip : {A : Type 0} (answer : ℕ → A) → ((i : ℕ) → i < n → (hash i ≡ h → ⊥) → answer i ≡ answer (i + 1)) → k ≤ n → answer k ≡ answer (first_with hash h n k)
    unfolding first_with
    first_skip answer f l = from_skip answer n f k (n - k) (omega arith)

-- no index is in a chain yet
chained_none : (hash : ℕ → ℕ) (buckets n : ℕ) (heads nexts : List ℕ) → heads ≡ replicate buckets n → n ≤ length nexts → Chained hash buckets n n heads nexts
chained_none hash buckets n heads nexts e l = record {
  bucket_count = ap length e ∙ length-replicate buckets n;
  room = l;
  head_of = λ h b. rw e (get_or-replicate buckets h n 0 b ∙ sym (first_end hash h n n (omega arith)));
  next_of = λ i a b m. absurd (omega arith);
}

-- the index in front of those in chains is put in front of the chain of its hash
module _ (hash : ℕ → ℕ) (buckets n j k h : ℕ) (heads nexts heads' nexts' : List ℕ) where
  chained_more : Chained hash buckets n j heads nexts → j ≡ k + 1 → k < n → h ≡ hash k → h < buckets → nexts' ≡ set nexts k (get_or heads h 0) → heads' ≡ set heads h k → Chained hash buckets n k heads' nexts'
  chained_more c s l e b p q = record {
    bucket_count = rw q (length-set heads h k ∙ c.bucket_count);
    room = rw p (omega (arith, length-set nexts k (get_or heads h 0), c.room));
    head_of = λ g o. by_eqb g h
        (λ z. rw (q, z, get_or-set_same heads h k 0 (omega (arith, c.bucket_count))) (sym (first_here hash h n k l (sym e))))
        (λ z. rw (q, get_or-set_other heads h g k 0 z) (c.head_of g o ∙ ap (first_with hash g n) s ∙ sym (first_next hash g n k l (λ y. z (sym y ∙ sym e)))));
    next_of = λ i a o m. by_eqb i k
        (λ z. rw (p, z, get_or-set_same nexts k (get_or heads h 0) 0 (omega (arith, c.room))) (c.head_of h b ∙ ap (first_with hash h n) s ∙ ap (λ (g : ℕ). first_with hash g n (k + 1)) e))
        (λ z. rw (p, get_or-set_other nexts k i (get_or heads h 0) 0 z) (c.next_of i (omega (arith, z, s)) o m));
  }

-- one whose hash is no bucket is left out
module _ (hash : ℕ → ℕ) (buckets n j k : ℕ) {heads nexts : List ℕ} where
  pub chained_past : Chained hash buckets n j heads nexts → j ≡ k + 1 → k < n → buckets ≤ hash k → Chained hash buckets n k heads nexts
  chained_past c s l b = record {
    bucket_count = c.bucket_count;
    room = c.room;
    head_of = λ g o. c.head_of g o ∙ ap (first_with hash g n) s ∙ sym (first_next hash g n k l (λ y. omega (arith, y)));
    next_of = λ i a o m. by_eqb i k (λ z. absurd (omega (arith, ap hash z))) (λ z. c.next_of i (omega (arith, z, s)) o m);
  }

-- both, where one list has the heads in front of the nexts
module _ (hash : ℕ → ℕ) (buckets n : ℕ) (index index' : List ℕ) where
  pub in_none : index' ≡ replicate buckets n ++ drop buckets index → buckets + n ≤ length index → ChainedIn hash buckets n n index'
  in_none e l =
      let front = replicate buckets n in
      let rest = drop buckets index in
      let z : drop buckets index' ≡ rest = rw e (drop_at front rest buckets (length-replicate buckets n)) in
      chained_none hash buckets n (take buckets index') (drop buckets index')
      (rw e (take_at front rest buckets (length-replicate buckets n)))
      (rw z (omega (arith, length-drop buckets index)))

  pub in_more : (j k h : ℕ) → ChainedIn hash buckets n j index → j ≡ k + 1 → k < n → h ≡ hash k → h < buckets → index' ≡ set (set index (buckets + k) (get_or index h 0)) h k → ChainedIn hash buckets n k index'
  in_more j k h c s l e b q =
      let v = get_or index h 0 in
      let more = set index (buckets + k) v in
      chained_more hash buckets n j k h (take buckets index) (drop buckets index) (take buckets index') (drop buckets index') c s l e b
      (rw (q, drop-set-lt buckets more h k b, drop-set-add buckets index k v, get_or-take buckets index h 0 b) refl)
      (rw (q, take-set-lt buckets more h k b, take-set-le buckets index (buckets + k) v (omega arith)) refl)

-- every step of a walk goes on, so that it ends
chain_rises : (hash : ℕ → ℕ) (buckets n : ℕ) (heads nexts : List ℕ) → Chained hash buckets n 0 heads nexts → (i : ℕ) → i < n → hash i < buckets → i < get_or nexts i 0
chain_rises hash buckets n heads nexts c i l b = rw (c.next_of i (omega arith) l b) (omega (arith, first_least hash (hash i) n (i + 1)))

-- a walk of a chain: its start, and the step behind an index that is not the one looked for
module _ {A : Type 0} (hash : ℕ → ℕ) (buckets n h : ℕ) (heads nexts : List ℕ) (answer : ℕ → A) (c : Chained hash buckets n 0 heads nexts) (b : h < buckets) (f : (i : ℕ) → i < n → (hash i ≡ h → ⊥) → answer i ≡ answer (i + 1)) where
  on_from : (k : ℕ) → k ≤ n → answer 0 ≡ answer k → Walk hash n h answer (first_with hash h n k)
  on_from k l e = record { reached = first_most hash h n k l; in_chain = first_hash hash h n k l; same_answer = e ∙ first_skip hash h n k answer f l }

  walk_start : Walk hash n h answer (get_or heads h 0)
  walk_start = rw (c.head_of h b) (on_from 0 (omega arith) refl)

  walk_next : (i : ℕ) → Walk hash n h answer i → i < n → answer i ≡ answer (i + 1) → Walk hash n h answer (get_or nexts i 0)
  walk_next i w l e =
      rw (c.next_of i (omega arith) l (omega (arith, w.in_chain l)), w.in_chain l) (on_from (i + 1) (omega arith) (w.same_answer ∙ e))

-- the same where one list has the heads in front of the nexts
module _ (hash : ℕ → ℕ) (buckets n : ℕ) (index : List ℕ) (c : ChainedIn hash buckets n 0 index) where
  pub in_room : buckets + n ≤ length index
  in_room = omega (arith, c.bucket_count, c.room, length-take buckets index, length-drop buckets index)

  pub in_rises : {A : Type 0} {answer : ℕ → A} {h i : ℕ} → h < buckets → Walk hash n h answer i → i < n → i < get_or index (buckets + i) 0
  in_rises {i = i} b w l =
      rw (get_or-drop buckets index i 0) at (chain_rises hash buckets n (take buckets index) (drop buckets index) c i l (omega (arith, w.in_chain l)))

  module _ {A : Type 0} (h : ℕ) (answer : ℕ → A) (b : h < buckets) (f : (i : ℕ) → i < n → (hash i ≡ h → ⊥) → answer i ≡ answer (i + 1)) where
    pub in_start : Walk hash n h answer (get_or index h 0)
    in_start =
        rw (get_or-take buckets index h 0 b) at (walk_start hash buckets n h (take buckets index) (drop buckets index) answer c b f)

    pub in_next : (i : ℕ) → Walk hash n h answer i → i < n → answer i ≡ answer (i + 1) → Walk hash n h answer (get_or index (buckets + i) 0)
    in_next i w l e =
        rw (get_or-drop buckets index i 0) at (walk_next hash buckets n h (take buckets index) (drop buckets index) answer c b f i w l e)
