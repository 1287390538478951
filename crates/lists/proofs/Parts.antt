-- Laws of parts of a list: what a slice `&s[a..b]` holds. Assumes nothing.
use mathlib.Core.Path.{◌≡◌, refl}
use Prim.Native.Nat.{ℕ, zero, suc, ◌-◌, ◌+◌, ◌≤◌, ◌<◌}
use native.Mathlib.Omega.{arith}
use mathlib.Core.List.{List, [], ◌∷◌, ◌++◌, append_assoc}
use lib.ListN.{length, take, drop, get_or, set, replicate, length-drop, drop_of_length-le}
use lib.Seq.{take_all, take-add, drop-drop, length-take-le, get_or-drop, get_or-take, set_at}
use Rattle.lists.specs.Scan.{Bytes, part}

-- what `&s[a..]` is
pub tail_part : (s : List ℕ) (a : ℕ) → take (length s - a) (drop a s) ≡ drop a s
tail_part s a = take_all (length s - a) (drop a s) (rw length-drop (omega arith))

pub part_length : (s : List ℕ) (a n : ℕ) → a + n ≤ length s → length (part s a n) ≡ n
part_length s a n h = length-take-le n (drop a s) (rw length-drop (omega arith))

pub part_at : (s : List ℕ) (a n i d : ℕ) → i < n → get_or (part s a n) i d ≡ get_or s (a + i) d
part_at s a n i d h = rw (get_or-take, get_or-drop)

pub bytes_drop : (s : List ℕ) (a : ℕ) → Bytes s → Bytes (drop a s)
bytes_drop s a h i = rw get_or-drop (h (a + i))

pub bytes_take : (s : List ℕ) (n : ℕ) → Bytes s → Bytes (take n s)
bytes_take s zero h i = omega arith
bytes_take [] (suc n) h i = h i
bytes_take (b ∷ s) (suc n) h zero = h 0
bytes_take (b ∷ s) (suc n) h (suc i) = bytes_take s n (λ j. h (suc j)) i

-- a part and the next
pub part_add : (s : List ℕ) (a m n : ℕ) → part s a (m + n) ≡ part s a m ++ part s (a + m) n
part_add s a m n = rw (take-add m n (drop a s), drop-drop m a s)

-- a part that begins at the end or behind it, and one that reaches the end
pub part_none : (s : List ℕ) (a n : ℕ) → length s ≤ a → part s a n ≡ []
part_none s a zero h = refl
part_none s a (suc n) h = rw (drop_of_length-le s h)

pub part_rest : (s : List ℕ) (a n : ℕ) → length s - a ≤ n → part s a n ≡ drop a s
part_rest s a n h = take_all n (drop a s) (rw length-drop (omega arith))

-- an element that is not the default stands inside
pub inside : (s : List ℕ) (i : ℕ) → (get_or s i 0 ≡ 0 → ⊥) → i < length s
inside [] zero h = absurd (h refl)
inside [] (suc i) h = absurd (h refl)
inside (b ∷ s) zero h = omega arith
inside (b ∷ s) (suc i) h = omega (arith, inside s i h)

-- a list that is filled from the front, over a default
pub fill_next : {A : Type 0} (z : A) (p : List A) (n i : ℕ) (r : A) → length p ≡ i → i < n → set (p ++ replicate (n - i) z) i r ≡ (p ++ (r ∷ [])) ++ replicate (n - (i + 1)) z
fill_next z p n i r e h =
    let f : n - i ≡ suc (n - (i + 1)) = omega arith in
    rw (f, set_at p z (replicate (n - (i + 1)) z) r i e, append_assoc)
