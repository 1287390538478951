-- Laws of noting offsets. Assumes nothing.
use mathlib.Core.Path.{◌≡◌, refl, sym, ◌∙◌}
use mathlib.Core.Bool.{Bool, true, false, not, ◌||◌}
use mathlib.Core.List.{List, [], ◌∷◌, ◌++◌}
use Prim.Native.Nat.{ℕ, suc, ◌+◌, ◌≤◌, ◌<◌}
use native.Mathlib.Omega.{arith}
use native.Mathlib.Nat.{add-zero}
use native.Mathlib.Numerals.{add-one}
use mir.Val.{bool_byte}
use lib.ListN.{length, get_or, set}
use lib.Seq.{set-get_or}
use borrow.Author.Tests.{lt-ltb, le-ltb, le-leb, lt-leb}
use Rattle.lists.specs.Choice.{pick, both}
use Rattle.lists.proofs.Tests.{by_leb, by_test}
use Rattle.list_labels.specs.Notes.{Notes, with_flag, with_far, note, note_all}

-- a near offset that was not flagged, one that was, a far one of the range, and one in front of it or behind it
module _ (n : Notes) (x : ℕ) where
  pub note_new : x < length n.flags → get_or n.flags x false ≡ false → note n x ≡ with_flag n x
  unfolding note
  note_new h e = rw (lt-ltb x (length n.flags) h, e)

  pub note_seen : x < length n.flags → (get_or n.flags x false ≡ true) → note n x ≡ n
  unfolding note
  note_seen h e = rw (lt-ltb x (length n.flags) h, e)

  pub note_far : length n.flags ≤ x → n.low ≤ x → x < n.high → note n x ≡ with_far n x
  unfolding note
  note_far h l k = rw (le-ltb x (length n.flags) h, le-leb n.low x l, lt-ltb x n.high k)

  pub note_front : length n.flags ≤ x → x < n.low → note n x ≡ n
  unfolding note
  note_front h l = rw (le-ltb x (length n.flags) h, lt-leb n.low x l)

  pub note_past : length n.flags ≤ x → n.low ≤ x → n.high ≤ x → note n x ≡ n
  unfolding note
  note_past h l k = rw (le-ltb x (length n.flags) h, le-leb n.low x l, le-ltb x n.high k)

  -- what holds of all ways holds
  pub by_way : (P : Notes → Type 0) → (x < length n.flags → get_or n.flags x false ≡ false → P (with_flag n x))
      → (x < length n.flags → (get_or n.flags x false ≡ true) → P n) → (length n.flags ≤ x → n.low ≤ x → x < n.high → P (with_far n x))
      → (length n.flags ≤ x → x < n.low → P n) → (length n.flags ≤ x → n.high ≤ x → P n) → P (note n x)
  by_way P a b c d e =
      by_leb (length n.flags) x
      (λ h. by_leb n.low x
      (λ l. by_leb n.high x (λ k. rw (note_past h l k) (e h k)) (λ k. rw (note_far h l k) (c h l k)))
      (λ l. rw (note_front h l) (d h l)))
      (λ h. by_test (get_or n.flags x false) (λ q. rw (note_seen h q) (b h q)) (λ q. rw (note_new h q) (a h q)))

  -- one offset counts once at most
  pub note_most : (note n x).near + (note n x).far ≤ suc (n.near + n.far)
  note_most =
      by_way (λ (m : Notes). m.near + m.far ≤ suc (n.near + n.far)) (λ h e. omega arith) (λ h e. omega arith) (λ h l k. omega arith)
      (λ h l. omega arith) (λ h k. omega arith)

-- the same by what the code counts
module _ (flags : List Bool) (stored : List ℕ) (near far low high x : ℕ) where
  abbrev notes : Notes
  notes = record { flags = flags; near = near; stored = stored; far = far; low = low; high = high }

  pub was_new : x < length flags → get_or flags x false ≡ false → record { flags = set flags x true; near = near + 1; stored = stored; far = far; low = low; high = high } ≡ note notes x
  was_new h e = rw (add-one near) (sym (note_new notes x h e))

  pub was_far : (stored' : List ℕ) → length flags ≤ x → low ≤ x → x < high → stored' ≡ set stored far x
      → record { flags = flags; near = near; stored = stored'; far = far + 1; low = low; high = high } ≡ note notes x
  was_far stored' h l k e = rw (e, add-one far) (sym (note_far notes x h l k))

-- offsets one behind the other
pub all_append : (n : Notes) (a b : List ℕ) → note_all n (a ++ b) ≡ note_all (note_all n a) b
unfolding note_all
all_append n [] b = refl
all_append n (x ∷ a) b = all_append (note n x) a b

pub all_one : (n : Notes) (x : ℕ) → note_all n (x ∷ []) ≡ note n x
unfolding note_all
all_one n x = refl

pub all_none : (n : Notes) → note_all n [] ≡ n
unfolding note_all
all_none n = refl

pub all_most : (n : Notes) (l : List ℕ) → (note_all n l).near + (note_all n l).far ≤ n.near + n.far + length l
unfolding note_all
all_most n [] = omega arith
all_most n (x ∷ l) = omega (arith, all_most (note n x) l, note_most n x)

-- a near offset flagged by the same steps whether it is marked or not
pub marked_near : (n : Notes) (x : ℕ) (marked : Bool) → x < length n.flags
    → record { flags = set n.flags x (marked || get_or n.flags x false); near = n.near + pick (both marked (not (get_or n.flags x false))) 1 0; stored = n.stored; far = n.far; low = n.low; high = n.high }
    ≡ note_all n (pick marked (x ∷ []) [])
marked_near n x true h =
    by_test (get_or n.flags x false)
    (λ q. let k : set n.flags x true ≡ n.flags = rw (sym q) (set-get_or n.flags x false) in
    rw (q, k, add-zero n.near) (sym (all_one n x ∙ note_seen n x h q)))
    (λ q. rw q (was_new n.flags n.stored n.near n.far n.low n.high x h q ∙ sym (all_one n x)))
marked_near n x false h = rw (set-get_or n.flags x false, add-zero n.near) (sym (all_none n))

-- a test as a number
pub byte_pick : (b : Bool) → bool_byte b ≡ pick b 1 0
byte_pick true = refl
byte_pick false = refl

-- one offset by a test
pub one_noted : (n n' : Notes) (p : Bool) (x : ℕ) → p ≡ true → n' ≡ note n x → n' ≡ note_all n (pick p (x ∷ []) [])
one_noted n n' p x e q = rw e (q ∙ sym (all_one n x))

pub none_noted : (n : Notes) (p : Bool) (l : List ℕ) → p ≡ false → n ≡ note_all n (pick p l [])
none_noted n p l e = rw e (sym (all_none n))
