-- Laws of an index of keys: how a key is put into it, and how a text is looked for along its chain. Assumes nothing.
use mathlib.Core.Path.{◌≡◌, refl, sym, ap, ◌∙◌}
use mathlib.Core.Bool.{Bool, true, false}
use mathlib.Core.List.{List, ◌++◌}
use Prim.Native.Nat.{ℕ, zero, suc, ◌+◌, ◌-◌, ◌≤◌, ◌<◌}
use native.Mathlib.Numerals.{add-one}
use native.Mathlib.Nat.{sub-zero}
use native.Mathlib.Omega.{arith}
use lib.ListN.{length, drop, get_or, set, replicate}
use Rattle.std.specs.Prelude.{Option, Some, None}
use Rattle.lists.specs.Choice.{pick}
use Rattle.lists.specs.Found.{Found}
use Rattle.lists.specs.Found.Found.{found, missing}
use Rattle.lists.proofs.Tests.{by_test}
use Rattle.lists.proofs.Scans.{same_eq}
use Rattle.slices.specs.Answers.{found_of}
use Rattle.hash_index.specs.Hash.{bucket_of}
use Rattle.hash_index.specs.Chain.{Walk}
use Rattle.hash_index.specs.Keys.{bucket_in, KeysFrom, KeysIndexed, is_key, key_from, first_key}
use Rattle.hash_index.proofs.ChainLaws.{in_none, in_more, chained_past, in_room, in_start, in_next, in_rises}

-- a key that is a text has the text's bucket
same_bucket : (m : ℕ) (text : List ℕ) (key : Option (List ℕ)) → is_key text key ≡ true → bucket_in m key ≡ bucket_of m text
same_bucket m text (Some key) e = ap (bucket_of m) (same_eq key text e)
same_bucket m text None e = cc e

-- no key is in a chain yet; a key is put in front of its chain; a gap is passed over
module _ (key : ℕ → Option (List ℕ)) (m n : ℕ) (index index' : List ℕ) where
  pub keys_none : index' ≡ replicate m n ++ drop m index → m + n ≤ length index → KeysFrom key m n n index'
  keys_none = in_none (λ i. bucket_in m (key i)) m n index index'

  module _ (j k : ℕ) (c : KeysFrom key m n j index) (e : j ≡ k + 1) (l : k < n) where
    pub keys_more : (h : ℕ) (text : List ℕ) → key k ≡ Some text → h ≡ bucket_of m text → h < m → index' ≡ set (set index (m + k) (get_or index h 0)) h k → KeysFrom key m n k index'
    keys_more h text q o b p =
        in_more (λ i. bucket_in m (key i)) m n index index' j k h c e l (o ∙ sym (ap (bucket_in m) q)) b p

    pub keys_past : key k ≡ None → KeysFrom key m n k index
    keys_past q = let b : m ≤ bucket_in m (key k) = omega (arith, ap (bucket_in m) q) in chained_past (λ i. bucket_in m (key i)) m n j k c e l b

pub key_room : (key : ℕ → Option (List ℕ)) (n m : ℕ) (index : List ℕ) → KeysIndexed key m n index → m + n ≤ length index
key_room key n m index c = in_room (λ i. bucket_in m (key i)) m n index c

module _ (key : ℕ → Option (List ℕ)) (n : ℕ) (text : List ℕ) where
  -- what a search from a key on answers
  abbrev pub answer_from : ℕ → Option ℕ
  answer_from i = key_from key text i (n - i)

  answer_first : answer_from 0 ≡ first_key key n text
  answer_first = ap (key_from key text 0) (sub-zero n)

  -- behind the last key
  answer_end : (i : ℕ) → n ≤ i → answer_from i ≡ None
  unfolding key_from
  answer_end i l = let z : n - i ≡ 0 = omega arith in rw z refl

  -- at a key that is the text, and at another
  module _ (i : ℕ) (l : i < n) where
    answer_here : is_key text (key i) ≡ true → answer_from i ≡ Some i
    unfolding key_from
    answer_here e = let z : n - i ≡ suc (n - (i + 1)) = omega arith in rw (z, key_from, e) refl

    answer_next : is_key text (key i) ≡ false → answer_from i ≡ answer_from (i + 1)
    unfolding key_from
    answer_next e = let z : n - i ≡ suc (n - (i + 1)) = omega arith in rw (z, key_from, e, add-one) refl

  -- any search that passes over other keys answers the same
  module _ (look : ℕ → Found) (here : (i : ℕ) → i < n → is_key text (key i) ≡ true → look i ≡ found i) (next : (i : ℕ) → i < n → is_key text (key i) ≡ false → look i ≡ look (i + 1)) (none : look n ≡ missing) where
    looks_from : (left i : ℕ) → i + left ≡ n → key_from key text i left ≡ found_of (look i)
    unfolding key_from
    looks_from zero i e = let z : i ≡ n = omega arith in sym (ap found_of (ap look z ∙ none))
    looks_from (suc left) i e =
        let l : i < n = omega arith in
        by_head (is_key text (key i)) refl l (looks_from left (suc i) (omega arith))
      where
        by_head : (b : Bool) → is_key text (key i) ≡ b → i < n → key_from key text (suc i) left ≡ found_of (look (suc i)) → pick b (Some i) (key_from key text (suc i) left) ≡ found_of (look i)
        by_head true q l h = sym (ap found_of (here i l q))
        by_head false q l h = h ∙ sym (ap found_of (next i l q ∙ ap look (add-one i)))

    pub first_key_is : first_key key n text ≡ found_of (look 0)
    first_key_is = looks_from n 0 (omega arith)

  module _ (m h : ℕ) (e : h ≡ bucket_of m text) (b : h < m) (index : List ℕ) (c : KeysIndexed key m n index) where
    passed : (i : ℕ) → i < n → (bucket_in m (key i) ≡ h → ⊥) → answer_from i ≡ answer_from (i + 1)
    passed i l z =
        answer_next i l (by_test (is_key text (key i)) (λ t. absurd (z (same_bucket m text (key i) t ∙ sym e))) (λ t. t))

    abbrev pub OnWalk : ℕ → Type 0
    OnWalk i = Walk (λ i. bucket_in m (key i)) n h answer_from i

    pub key_start : OnWalk (get_or index h 0)
    key_start = in_start (λ i. bucket_in m (key i)) m n index c h answer_from b passed

    module _ (i : ℕ) (w : OnWalk i) (l : i < n) where
      -- the walk goes on
      pub key_rises : i < get_or index (m + i) 0
      key_rises = in_rises (λ i. bucket_in m (key i)) m n index c b w l

      pub key_next : is_key text (key i) ≡ false → OnWalk (get_or index (m + i) 0)
      key_next t = in_next (λ i. bucket_in m (key i)) m n index c h answer_from b passed i w l (answer_next i l t)

-- a walk ends at the key that is the text, or behind the last key
module _ (key : ℕ → Option (List ℕ)) (n : ℕ) (text : List ℕ) (m h i : ℕ) (w : Walk (λ k. bucket_in m (key k)) n h (answer_from key n text) i) where
  pub key_found : i < n → is_key text (key i) ≡ true → Some i ≡ first_key key n text
  key_found l t = sym (answer_here key n text i l t) ∙ sym w.same_answer ∙ answer_first key n text

  pub key_missing : n ≤ i → None ≡ first_key key n text
  key_missing l = sym (answer_end key n text i l) ∙ sym w.same_answer ∙ answer_first key n text
