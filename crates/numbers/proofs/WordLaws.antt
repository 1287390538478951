-- Laws of writing a number by whole words: those of its bytes that are behind the piece are written over. Assumes nothing.
use Rattle.std.proofs.Common.{◌≡◌, ℕ, zero, suc, ◌+◌, ◌-◌, ◌/◌, ◌%◌, ◌<◌, ◌≤◌, min, List, ◌∷◌, ◌++◌, length, take, drop, set, sym, refl, ap, ◌∙◌, arith, length-drop, take-take, take_at}
use Rattle.lists.specs.Scan.{Bytes, part}
use Rattle.lists.specs.Write.{put, ByWords, top}
use Rattle.lists.proofs.Parts.{bytes_drop, bytes_take, part_length, part_add}
use Rattle.spec_numbers.specs.LittleEndian.{le, le_bytes}
use Rattle.spec_numbers.proofs.ByteLaws.{length_le_bytes, le_bytes_step, le_bytes_le}

-- the first bytes of a number
le_bytes_front : (w n v : ℕ) → w ≤ n → le_bytes n v ≡ le_bytes w v ++ drop w (le_bytes n v)
unfolding le_bytes
le_bytes_front zero n v h = refl
le_bytes_front (suc w) zero v h = absurd (omega arith)
le_bytes_front (suc w) (suc n) v h = ap (λ (m : List ℕ). v % 256 ∷ m) (le_bytes_front w n (v / 256) (omega arith))

-- a byte of a number is written, and those behind it follow
pub one_byte : (out : List ℕ) (at i v : ℕ) → i < 8 → put out (at + i) (le_bytes (8 - i) v) ≡ put (set out (at + i) (v % 256)) (at + (i + 1)) (le_bytes (8 - (i + 1)) (v / 256))
unfolding put
one_byte out at i v h =
    let e : 8 - i - 1 ≡ 8 - (i + 1) = omega arith in
    let k : at + (i + 1) ≡ suc (at + i) = omega arith in
    rw (le_bytes_step (8 - i) v (omega arith), e, k)

-- eight bytes of which w are the piece
pub wide : {out o : List ℕ} {k : ℕ} (w v : ℕ) → w ≤ 8 → length out ≤ top → k + 8 ≤ length out → o ≡ put out k (le_bytes 8 v) → ByWords out k (le_bytes w v) o (k + w)
wide {out} {o} {k} w v h l g e = record {
  small = l;
  next = omega (arith, length_le_bytes w v);
  behind = drop w (le_bytes 8 v);
  few = omega (arith, length-drop w (le_bytes 8 v), length_le_bytes 8 v);
  bytes = e ∙ ap (put out k) (le_bytes_front w 8 v h);
}

-- the first bytes of eight
pub front_bytes : (s : List ℕ) (at n : ℕ) → Bytes s → at + 8 ≤ length s → n ≤ 8 → le_bytes n (le (part s at 8)) ≡ part s at n
front_bytes s at n b h l =
    let e = rw (part_length s at 8 h) at (le_bytes_le (part s at 8) (bytes_take (drop at s) 8 (bytes_drop s at b))) in
    sym (take_at (le_bytes n (le (part s at 8))) (drop n (le_bytes 8 (le (part s at 8)))) n (length_le_bytes n _))
    ∙ (ap (take n) (sym (le_bytes_front n 8 (le (part s at 8)) l) ∙ e) ∙ take-take n 8 (drop at s) l)

-- a part that was begun, and the next w of it
pub next_part : (s : List ℕ) (at a k w : ℕ) → a ≤ k → part s (at + a) (k + w - a) ≡ part s (at + a) (k - a) ++ part s (at + k) w
next_part s at a k w h =
    let e : k + w - a ≡ k - a + w = omega arith in
    let f : at + a + (k - a) ≡ at + k = omega arith in
    rw (e, part_add s (at + a) (k - a) w, f)

-- a part is its first word, its second and the rest
pub three_parts : (s : List ℕ) (at n : ℕ)
    → part s (at + 0) (min (n - 0) 8) ++ part s (at + min n 8) (min (n - min n 8) 8) ++ part s (at + (min n 8 + min (n - min n 8) 8)) (n - (min n 8 + min (n - min n 8) 8)) ≡ part s at n
three_parts s at n =
    let a = min n 8 in
    let b = min (n - min n 8) 8 in
    let z : at + 0 ≡ at = omega arith in
    let y : n - 0 ≡ n = omega arith in
    let e : n ≡ a + b + (n - (a + b)) = omega arith in
    rw (z, y, sym (part_add s at a b), sym (part_add s at (a + b) (n - (a + b))), sym e)
