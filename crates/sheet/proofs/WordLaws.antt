-- The word of eight bytes at a place: its first bytes, the byte behind them, and the text that they are. Assumes nothing.
use mathlib.Core.Path.{◌≡◌, ap, sym, ◌∙◌}
use mathlib.Core.Bool.{true, false}
use mathlib.Core.List.{List, ◌∷◌, ◌++◌, append_assoc}
use Prim.Native.Nat.{ℕ, ◌+◌, ◌-◌, ◌*◌, ◌/◌, ◌%◌, ◌^◌, ◌≤◌, ◌<◌}
use native.Mathlib.Nat.{add-mul-mod_self_left, mod-eq_of_lt}
use native.Mathlib.Omega.{arith}
use lib.ListN.{length, drop, get_or, take-append-drop, drop_of_length-le}
use lib.Seq.{drop-drop, drop-cons}
use borrow.Author.Tests.{ne_eqb}
use Rattle.lists.specs.Scan.{Bytes, opens, part}
use Rattle.lists.proofs.Parts.{bytes_drop, part_length, bytes_take}
use Rattle.lists.proofs.Scans.{opens_append, opens_split}
use Rattle.lists.proofs.Tests.{by_leb}
use Rattle.spec_numbers.specs.LittleEndian.{le, le_bytes}
use Rattle.spec_numbers.proofs.ByteLaws.{le_bytes_le, le_bound}
use Rattle.numbers.proofs.ByteSums.{le_split, le_one, le_behind}
use Rattle.spec_sheet.specs.Scan.{literal_at}
use Rattle.spec_sheet.specs.Scan.Step.{next}

module _ (s : List ℕ) (at n : ℕ) (bs : Bytes s) (h : at + 8 ≤ length s) (l : n ≤ 8) where
  eight_bytes : n + (8 - n) ≡ 8
  eight_bytes = omega arith

  -- the first n of eight bytes
  pub front_bytes : le_bytes n (le (part s at 8) % 256 ^ n) ≡ part s at n
  front_bytes =
      let e : le (part s at 8) ≡ le (part s at n) + 256 ^ n * le (part s (at + n) (8 - n)) = rw eight_bytes at (le_split s at n (8 - n) (omega arith)) in
      let m : le (part s at 8) % 256 ^ n ≡ le (part s at n) =
      rw (e, add-mul-mod_self_left (le (part s at n)) (256 ^ n) (le (part s (at + n) (8 - n)))) (mod-eq_of_lt (le_bound n (drop at s) (bytes_drop s at bs))) in
      rw m (rw (part_length s at n (omega arith)) at (le_bytes_le (part s at n) (bytes_take (drop at s) n (bytes_drop s at bs))))

  -- the byte behind them
  pub byte_behind : n < 8 → le (part s at 8) / 256 ^ n % 256 ≡ get_or s (at + n) 0
  byte_behind k =
      let e : le (part s at 8) / 256 ^ n ≡ le (part s (at + n) (8 - n)) = rw eight_bytes at (le_behind s at n (8 - n) bs (omega arith)) in
      let f : 1 + (7 - n) ≡ 8 - n = omega arith in
      let g : le (part s (at + n) (8 - n)) ≡ le (part s (at + n) 1) + 256 ^ 1 * le (part s (at + n + 1) (7 - n)) = rw f at (le_split s (at + n) 1 (7 - n) (omega arith)) in
      rw e (omega (arith, g, le_one s (at + n) (omega arith), bs (at + n)))

  -- a text whose bytes they are
  pub word_opens : (p : List ℕ) (w c : ℕ) → w ≡ le (part s at 8) → w % 256 ^ n ≡ c → le_bytes n c ≡ p → opens p (drop at s) ≡ true
  word_opens p w c e f g =
      let q : part s at n ≡ p = sym front_bytes ∙ (ap (le_bytes n) (rw e at f) ∙ g) in
      let d : drop at s ≡ p ++ drop n (drop at s) = sym (take-append-drop n (drop at s)) ∙ ap (λ (r : List ℕ). r ++ drop n (drop at s)) q in
      ap (opens p) d ∙ opens_append p (drop n (drop at s))

-- the same for all eight
pub whole_word : (s : List ℕ) (at : ℕ) → Bytes s → at + 8 ≤ length s → (w : ℕ) → w ≡ le (part s at 8) → w % 256 ^ 8 ≡ w
whole_word s at bs h w e = rw e (mod-eq_of_lt (le_bound 8 (drop at s) (bytes_drop s at bs)))

-- one text behind another
pub opens_join : (p q s : List ℕ) (at : ℕ) → opens p (drop at s) ≡ true → opens q (drop (at + length p) s) ≡ true → opens (p ++ q) (drop at s) ≡ true
opens_join p q s at a b =
    let t = drop (length q) (drop (at + length p) s) in
    let e : drop at s ≡ p ++ drop (length p) (drop at s) = opens_split p (drop at s) a in
    let f : drop (length p) (drop at s) ≡ q ++ t = drop-drop (length p) at s ∙ opens_split q (drop (at + length p) s) b in
    ap (opens (p ++ q)) (e ∙ (ap (λ (r : List ℕ). p ++ r) f ∙ sym (append_assoc p q t))) ∙ opens_append (p ++ q) t

-- another byte stands where a text would open
pub opens_other : (a : ℕ) (p s : List ℕ) (at : ℕ) → (get_or s at 0 ≡ a → ⊥) → opens (a ∷ p) (drop at s) ≡ false
unfolding opens
opens_other a p s at h =
    by_leb (length s) at
    (λ l. rw (drop_of_length-le s l))
    (λ l. rw (drop-cons s at 0 l, ne_eqb a (get_or s at 0) (λ e. h (sym e))))

pub literal_there : (p s : List ℕ) (at : ℕ) → opens p (drop at s) ≡ true → literal_at p s at ≡ next 0 (at + length p)
unfolding literal_at
literal_there p s at e = rw e
