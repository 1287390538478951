-- Laws of chains that go from the last key to the first: how a key is added, and how a chain is walked. Assumes nothing.
use mathlib.Core.Path.{◌≡◌, refl, sym, ap, ◌∙◌}
use mathlib.Core.List.{List, ◌++◌}
use Prim.Native.Nat.{ℕ, zero, suc, ◌+◌, ◌-◌, ◌*◌, ◌/◌, ◌≤◌, ◌<◌}
use native.Mathlib.Numerals.{add-one}
use native.Mathlib.Omega.{arith}
use borrow.Author.Tests.{eq-eqb, ne_eqb}
use lib.ListN.{length, drop, get_or, set, replicate, length-set, length-append, length-replicate, get_or-replicate, get_or-append}
use lib.Seq.{get_or-set_same, get_or-set_other}
use Rattle.lists.proofs.Tests.{by_eqb}
use Rattle.hash_index.specs.Backward.{next_unit, last_below, ChainedBack, WalkBack}

module _ (hash : ℕ → ℕ) (h : ℕ) where
  -- the clauses, by their test
  last_none : last_below hash h 0 ≡ 0
  unfolding last_below
  last_none = refl

  last_here : (k : ℕ) → hash k ≡ h → last_below hash h (suc k) ≡ suc k
  unfolding last_below
  last_here k e = rw (eq-eqb (hash k) h e, last_below)

  last_before : (k : ℕ) → (hash k ≡ h → ⊥) → last_below hash h (suc k) ≡ last_below hash h k
  unfolding last_below
  last_before k e = rw (ne_eqb (hash k) h e, last_below)

  -- it lies below the end, and has the hash where there is one
  pub last_most : (n : ℕ) → last_below hash h n ≤ n
  last_most zero = rw last_none (omega arith)
  last_most (suc n) =
      by_eqb (hash n) h
      (λ e. rw (last_here n e) (omega arith))
      (λ e. rw (last_before n e) (omega (arith, last_most n)))

  last_hash : (n : ℕ) → 0 < last_below hash h n → hash (last_below hash h n - 1) ≡ h
  last_hash zero l = absurd (omega (arith, rw last_none at l))
  last_hash (suc n) l =
      by_eqb (hash n) h
      (λ e. let z : suc n - 1 ≡ n = omega arith in rw (last_here n e, z) e)
      (λ e. rw (last_before n e) (last_hash n (rw (last_before n e) at l)))

  -- what no other hash changes is the same up to the last
  last_skip : {A : Type 0} (answer : ℕ → A) (n : ℕ) → ((i : ℕ) → i < n → (hash i ≡ h → ⊥) → answer (i + 1) ≡ answer i) → answer n ≡ answer (last_below hash h n)
  last_skip answer zero f = rw last_none refl
  last_skip answer (suc n) f =
      by_eqb (hash n) h
      (λ e. rw (last_here n e) refl)
      (λ e. rw (last_before n e) (ap answer (sym (add-one n)) ∙ f n (omega arith) e ∙ last_skip answer n (λ i l. f i (omega arith))))

  -- it depends on the hashes below the end alone
  last_same : (other : ℕ → ℕ) (n : ℕ) → ((i : ℕ) → i < n → other i ≡ hash i) → last_below other h n ≡ last_below hash h n
  unfolding last_below
  last_same other zero f = refl
  last_same other (suc n) f = rw (f n (omega arith), last_same other n (λ i l. f i (omega arith)))

-- no key is in a chain yet
pub back_none : (hash : ℕ → ℕ) (buckets : ℕ) (index index' : List ℕ) → index' ≡ replicate buckets 0 ++ drop buckets index → buckets ≤ length index → ChainedBack hash buckets 0 index'
back_none hash buckets index index' e l =
    let front : List ℕ = replicate buckets 0 in
    record {
      room = rw e (omega (arith, length-append front (drop buckets index), length-replicate {A = ℕ} buckets 0));
      head_of = λ h b. rw e (get_or-append front (drop buckets index) 0 h (omega (arith, length-replicate {A = ℕ} buckets 0)) ∙ get_or-replicate buckets h 0 0 b ∙ sym (last_none hash h));
      next_of = λ k o. absurd (omega arith);
    }

-- a key more, behind the others, which is put in front of the chain of its hash
module _ (hash more : ℕ → ℕ) (buckets n h own : ℕ) (index index' : List ℕ) (c : ChainedBack hash buckets n index) (f : (i : ℕ) → i < n → more i ≡ hash i) (e : h ≡ more n) (b : h < buckets)
    (r : buckets + n < length index) (o : own < next_unit) (q : index' ≡ set (set index (buckets + n) (own + get_or index h 0 * next_unit)) h (n + 1)) where
  abbrev word : ℕ
  word = own + get_or index h 0 * next_unit

  -- the words behind the heads
  pub word_before : (i : ℕ) → i < n → get_or index' (buckets + i) 0 ≡ get_or index (buckets + i) 0
  word_before i l = rw q (get_or-set_other (set index (buckets + n) word) h (buckets + i) (n + 1) 0 (λ z. omega arith) ∙ get_or-set_other index (buckets + n) (buckets + i) word 0 (λ z. omega arith))

  pub word_here : get_or index' (buckets + n) 0 ≡ word
  word_here = rw q (get_or-set_other (set index (buckets + n) word) h (buckets + n) (n + 1) 0 (λ z. omega arith) ∙ get_or-set_same index (buckets + n) word 0 r)

  pub back_more : ChainedBack more buckets (n + 1) index'
  back_more = record {
    room = rw q (omega (arith, length-set (set index (buckets + n) word) h (n + 1), length-set index (buckets + n) word));
    head_of = λ g l. by_eqb g h
        (λ z. rw (q, z) (get_or-set_same (set index (buckets + n) word) h (n + 1) 0 (omega (arith, length-set index (buckets + n) word)) ∙ rw (add-one n) (sym (last_here more h n (sym e)))))
        (λ z. rw q (get_or-set_other (set index (buckets + n) word) h g (n + 1) 0 z ∙ get_or-set_other index (buckets + n) g word 0 (λ y. omega arith)
        ∙ c.head_of g l ∙ sym (last_same hash g more n f) ∙ rw (add-one n) (sym (last_before more g n (λ y. z (sym y ∙ sym e))))));
    next_of = λ i l. by_eqb i n
        (λ z. rw (z, word_here) (let d : word / next_unit ≡ get_or index h 0 = omega arith in d ∙ c.head_of h b ∙ sym (last_same hash h more n f) ∙ ap (λ (g : ℕ). last_below more g n) e))
        (λ z. let k : i < n = omega (arith, z) in rw (word_before i k) (c.next_of i k ∙ ap (λ (g : ℕ). last_below hash g i) (sym (f i k)) ∙ sym (last_same hash (more i) more i (λ j y. f j (omega arith)))));
  }

-- a walk of a chain: its start, and the step behind a key that is not the one looked for
module _ (hash : ℕ → ℕ) (buckets n : ℕ) (index : List ℕ) (c : ChainedBack hash buckets n index) where
  -- every step goes back, so that it ends
  pub back_falls : (i : ℕ) → i < n → get_or index (buckets + i) 0 / next_unit ≤ i
  back_falls i l = rw (c.next_of i l) (last_most hash (hash i) i)

  module _ {A : Type 0} (h : ℕ) (answer : ℕ → A) (b : h < buckets) (f : (i : ℕ) → i < n → (hash i ≡ h → ⊥) → answer (i + 1) ≡ answer i) where
    on_below : (k : ℕ) → k ≤ n → answer n ≡ answer k → WalkBack hash n h answer (last_below hash h k)
    on_below k l e = record {
      reached = omega (arith, last_most hash h k);
      in_chain = last_hash hash h k;
      same_answer = e ∙ last_skip hash h answer k (λ i o. f i (omega arith));
    }

    pub back_start : WalkBack hash n h answer (get_or index h 0)
    back_start = rw (c.head_of h b) (on_below n (omega arith) refl)

    pub back_next : (k : ℕ) → WalkBack hash n h answer k → 0 < k → answer k ≡ answer (k - 1) → WalkBack hash n h answer (get_or index (buckets + (k - 1)) 0 / next_unit)
    back_next k w l e = rw (c.next_of (k - 1) (omega (arith, w.reached)), w.in_chain l) (on_below (k - 1) (omega (arith, w.reached)) (w.same_answer ∙ e))
