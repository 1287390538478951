-- Letters in front of a word of bytes: a number that is made of the word at once has a byte 0 for each letter. Assumes nothing.
use mathlib.Core.Path.{◌≡◌, refl, ap, sym, ◌∙◌}
use mathlib.Core.Bool.{Bool, true}
use mathlib.Core.List.{List, [], ◌∷◌, ◌++◌}
use Prim.Native.Nat.{ℕ, zero, suc, ◌+◌, ◌*◌, ◌/◌, ◌%◌, ◌^◌, ◌≤◌, ◌<◌}
use native.Mathlib.Omega.{arith}
use lib.Bits.{bit_and, bit_or, bit_xor, and_block, or_block, xor_block, and_le_r, or_lt, xor_lt}
use lib.Dec.{eqb}
use lib.ListN.{length, take, drop, take-append-drop}
use lib.Pow.{mod-pow-add}
use lib.Seq.{take-take, drop-drop}
use borrow.Author.Tests.{eq-eqb}
use Rattle.lists.specs.Choice.{pick, both}
use Rattle.lists.specs.Scan.{Bytes, all, run, part}
use Rattle.lists.proofs.Parts.{part_length}
use Rattle.lists.proofs.Scans.{all_cons, run_cons_go}
use Rattle.lists.proofs.Tests.{by_eqb, both_left, both_right}
use Rattle.spec_numbers.specs.LittleEndian.{le, le_bytes}
use Rattle.spec_sheet.specs.Scan.{is_name_byte}
use Rattle.sheet.proofs.WordLaws.{front_bytes, whole_word}

-- what the code makes of a word
abbrev lowered : ℕ → ℕ → ℕ → ℕ
lowered w a m = bit_and (bit_or w a) m

abbrev marked : ℕ → ℕ → ℕ → ℕ → ℕ → ℕ
marked w l x y h = bit_and (bit_or (bit_xor (bit_xor (l + x) (l + y)) h) w) h

-- n bytes of one value
abbrev times : ℕ → ℕ → ℕ
times zero c = 0
times (suc n) c = times n c * 256 + c

-- a word of n bytes, and a byte: 0 for a letter
abbrev pub others : ℕ → ℕ → ℕ
others n w = marked w (lowered w (times n 32) (times n 127)) (times n 31) (times n 5) (times n 128)

abbrev other : ℕ → ℕ
other b = marked b (lowered b 32 127) 31 5 128

-- it is made of each byte by itself
lowered_block : (v b a m : ℕ) → b < 256 → lowered (v * 256 + b) (a * 256 + 32) (m * 256 + 127) ≡ lowered v a m * 256 + lowered b 32 127
lowered_block v b a m h =
    ap (λ (x : ℕ). bit_and x (m * 256 + 127)) (or_block 8 v a b 32 h (omega arith))
    ∙ and_block 8 (bit_or v a) m (bit_or b 32) 127 (or_lt 8 b 32 h (omega arith)) (omega arith)

marked_block : (v b l c x y h : ℕ) → b < 256 → c ≤ 127
    → marked (v * 256 + b) (l * 256 + c) (x * 256 + 31) (y * 256 + 5) (h * 256 + 128) ≡ marked v l x y h * 256 + marked b c 31 5 128
marked_block v b l c x y h p q =
    let e : l * 256 + c + (x * 256 + 31) ≡ (l + x) * 256 + (c + 31) = omega arith in
    let f : l * 256 + c + (y * 256 + 5) ≡ (l + y) * 256 + (c + 5) = omega arith in
    let d : bit_xor (c + 31) (c + 5) < 256 = xor_lt 8 (c + 31) (c + 5) (omega arith) (omega arith) in
    let d' : bit_xor (bit_xor (c + 31) (c + 5)) 128 < 256 = xor_lt 8 (bit_xor (c + 31) (c + 5)) 128 d (omega arith) in
    let g₁ = xor_block 8 (l + x) (l + y) (c + 31) (c + 5) (omega arith) (omega arith) in
    let g₂ = xor_block 8 (bit_xor (l + x) (l + y)) h (bit_xor (c + 31) (c + 5)) 128 d (omega arith) in
    let g₃ = or_block 8 (bit_xor (bit_xor (l + x) (l + y)) h) v (bit_xor (bit_xor (c + 31) (c + 5)) 128) b d' p in
    let g₄ = and_block 8 (bit_or (bit_xor (bit_xor (l + x) (l + y)) h) v) h (bit_or (bit_xor (bit_xor (c + 31) (c + 5)) 128) b) 128 (or_lt 8 (bit_xor (bit_xor (c + 31) (c + 5)) 128) b d' p) (omega arith) in
    rw (e, f, g₁, g₂, g₃) g₄

others_step : (n w : ℕ) → others (suc n) w ≡ others n (w / 256) * 256 + other (w % 256)
others_step n w =
    let q : w ≡ w / 256 * 256 + w % 256 = omega arith in
    let v = w / 256 in
    let b = w % 256 in
    let h : b < 256 = omega arith in
    ap (others (suc n)) q
    ∙ (ap (λ (l : ℕ). marked (v * 256 + b) l (times n 31 * 256 + 31) (times n 5 * 256 + 5) (times n 128 * 256 + 128)) (lowered_block v b (times n 32) (times n 127) h)
    ∙ marked_block v b (lowered v (times n 32) (times n 127)) (lowered b 32 127) (times n 31) (times n 5) (times n 128) h (and_le_r (bit_or b 32) 127))

-- a byte that is made 0 is a letter, by one computed look at all bytes
unfoldable letters_below : ℕ → Bool
letters_below zero = true
letters_below (suc b) = both (pick (eqb (other b) 0) (is_name_byte b) true) (letters_below b)

all_looked_at : letters_below 256 ≡ true
unfolding letters_below is_name_byte
all_looked_at = refl

letter_at : (n b : ℕ) → letters_below n ≡ true → b < n → other b ≡ 0 → is_name_byte b ≡ true
unfolding letters_below
letter_at zero b e h z = absurd (omega arith)
letter_at (suc n) b e h z =
    let l : pick (eqb (other n) 0) (is_name_byte n) true ≡ true = both_left _ (letters_below n) e in
    let r : letters_below n ≡ true = both_right (pick (eqb (other n) 0) (is_name_byte n) true) _ e in
    by_eqb b n (λ q. rw q (letter_here n (rw q at z) l)) (λ q. letter_at n b r (omega (arith, q)) z)
  where
    letter_here : (c : ℕ) → other c ≡ 0 → pick (eqb (other c) 0) (is_name_byte c) true ≡ true → is_name_byte c ≡ true
    letter_here c z l = rw (eq-eqb (other c) 0 z) at l

other_bound : (b : ℕ) → other b ≤ 128
other_bound b = and_le_r (bit_or (bit_xor (bit_xor (lowered b 32 127 + 31) (lowered b 32 127 + 5)) 128) b) 128

-- zeros in front are letters in front
pub letters_there : (n k w : ℕ) → k ≤ n → others n w % 2 ^ (8 * k) ≡ 0 → all is_name_byte (take k (le_bytes n w)) ≡ true
unfolding all le_bytes
letters_there n zero w h e = refl
letters_there zero (suc k) w h e = absurd (omega arith)
letters_there (suc n) (suc k) w h e =
    let q : 8 * suc k ≡ 8 * k + 8 = omega arith in
    let s = others_step n w in
    let o = other_bound (w % 256) in
    let d : others (suc n) w / 256 ≡ others n (w / 256) = omega (arith, s, o) in
    let m : others (suc n) w % 256 ≡ other (w % 256) = omega (arith, s, o) in
    let f : others (suc n) w % 2 ^ (8 * k + 8) ≡ 0 = rw q at e in
    let g : (others (suc n) w / 256 % 2 ^ (8 * k)) * 256 + others (suc n) w % 256 ≡ 0 = sym (mod-pow-add (others (suc n) w) (8 * k) 8) ∙ f in
    let r : others n (w / 256) % 2 ^ (8 * k) ≡ 0 = rw d at (first_zero (others (suc n) w / 256 % 2 ^ (8 * k)) (others (suc n) w % 256) g) in
    all_cons is_name_byte (w % 256) (take k (le_bytes n (w / 256)))
    (letter_at 256 (w % 256) all_looked_at (omega arith) (omega (arith, m, g)))
    (letters_there n k (w / 256) (omega arith) r)
  where
    first_zero : (a b : ℕ) → a * 256 + b ≡ 0 → a ≡ 0
    first_zero a b e = omega arith

-- a run goes over what passes
run_over : (p : ℕ → Bool) (s t : List ℕ) → all p s ≡ true → run p (s ++ t) ≡ length s + run p t
unfolding all
run_over p [] t e = omega arith
run_over p (b ∷ s) t e =
    run_cons_go p b (s ++ t) (both_left (p b) (all p s) e) ∙ omega (arith, run_over p s t (both_right (p b) (all p s) e))

-- k letters of the word at i
pub letters_over : (s : List ℕ) (i k w : ℕ) → Bytes s → i + 8 ≤ length s → w ≡ le (part s i 8) → k ≤ 8 → all is_name_byte (take k (le_bytes 8 w)) ≡ true
    → i + run is_name_byte (drop i s) ≡ i + k + run is_name_byte (drop (i + k) s)
letters_over s i k w bs h e l a =
    let f : le_bytes 8 w ≡ part s i 8 = rw (sym (whole_word s i bs h w e)) (rw e (front_bytes s i 8 bs h (omega arith))) in
    let t : take k (le_bytes 8 w) ≡ part s i k = ap (take k) f ∙ take-take k 8 (drop i s) l in
    let d : drop i s ≡ part s i k ++ drop (i + k) s = sym (take-append-drop k (drop i s)) ∙ ap (λ (r : List ℕ). part s i k ++ r) (drop-drop k i s) in
    let r = run_over is_name_byte (part s i k) (drop (i + k) s) (rw t at a) in
    rw d (omega (arith, r, part_length s i k (omega arith)))
