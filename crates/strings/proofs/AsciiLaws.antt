-- A table of ASCII whose ends are in order is sound. Assumes nothing.
use mathlib.Core.Path.{◌≡◌, refl, ap, ◌∙◌}
use mathlib.Core.Bool.{Bool, true, ◌&&◌}
use lib.Dec.{ltb, leb}
use Rattle.lists.specs.Choice.{both}
use Rattle.lists.proofs.Links.{both_and}
use Rattle.std.specs.Char.{is_ascii}
use Rattle.std.specs.List.{prefix_len}
use mathlib.Core.List.{List, [], ◌∷◌}
use Prim.Native.Nat.{ℕ, zero, suc, ◌+◌, ◌-◌, ◌≤◌, ◌<◌}
use native.Mathlib.Omega.{arith}
use lib.ListN.{length, get_or, take, drop}
use lib.Seq.{get_or-drop, drop-drop}
use borrow.Author.Tests.{le-leb, ltb-true, leb-true}
use Rattle.std.specs.Prelude.{None}
use Rattle.std.specs.Str.{IsAscii}
use Rattle.slices.specs.Answers.{found_of}
use Rattle.lists.specs.Scan.{part}
use Rattle.lists.specs.Found.Found.{missing}
use Rattle.lists.proofs.Parts.{tail_part}
use Rattle.lists.proofs.Tests.{by_leb, by_test, both_left, both_right}
use Rattle.spec_strings.specs.Utf8.{utf8_from, is_utf8}
use Rattle.spec_strings.specs.Table.{well_formed, fault_from, fault}
use Rattle.spec_strings.proofs.Utf8Laws.{step_ascii}
use Rattle.strings.specs.Order.{Rising, InOrder}

-- as many ASCII bytes as one likes are UTF-8
taken : (n : ℕ) (s : List ℕ) → ((i : ℕ) → get_or s i 0 < 128) → is_utf8 (take n s) ≡ true
unfolding utf8_from
taken zero s h = refl
taken (suc n) [] h = refl
taken (suc n) (b ∷ s) h = ap (λ (st : ℕ). utf8_from st (take n s)) (step_ascii b (h 0)) ∙ taken n s (λ i. h (suc i))

-- and so is each part
ascii_part : (s : List ℕ) (at n : ℕ) → ((i : ℕ) → get_or s i 0 < 128) → is_utf8 (part s at n) ≡ true
ascii_part s at n h = taken n (drop at s) (λ i. rw (get_or-drop at s i 0) (h (at + i)))

-- entries that start behind `start`
sound_from : (bytes ends : List ℕ) (start id : ℕ) → ((i : ℕ) → get_or bytes i 0 < 128) → Rising (start ∷ ends) → ((i : ℕ) → i < length ends → get_or ends i 0 ≤ length bytes)
    → fault_from bytes start id ends ≡ missing
unfolding fault_from well_formed
sound_from bytes [] start id h r k = refl
sound_from bytes (e ∷ es) start id h r k =
    let a : start ≤ e = r 0 (omega arith) in
    let b : e ≤ length bytes = k 0 (omega arith) in
    rw (le-leb start e a, le-leb e (length bytes) b, ascii_part bytes start (e - start) h)
    (sound_from bytes es e (suc id) h (λ i l. r (suc i) (omega arith)) (λ i l. k (suc i) (omega arith)))

from_zero : (ends : List ℕ) → Rising ends → Rising (0 ∷ ends)
from_zero ends r zero l = omega arith
from_zero ends r (suc i) l = r i (omega arith)

pub ascii_sound : (bytes ends : List ℕ) → ((i : ℕ) → get_or bytes i 0 < 128) → InOrder bytes ends → fault bytes ends ≡ missing
ascii_sound bytes ends h o = sound_from bytes ends 0 0 h (from_zero ends o.rising) o.inside

-- so no entry is answered
pub none_faulty : (bytes ends : List ℕ) → IsAscii bytes → InOrder bytes ends → found_of (fault bytes ends) ≡ None
none_faulty bytes ends h o = ap found_of (ascii_sound bytes ends h o)

-- ends that rise lie before the last
to_last : (ends : List ℕ) → Rising ends → (d i : ℕ) → i + d < length ends → get_or ends i 0 ≤ get_or ends (i + d) 0
to_last ends r zero i l = let z : i + 0 ≡ i = omega arith in rw z (omega arith)
to_last ends r (suc d) i l =
    let z : i + suc d ≡ suc (i + d) = omega arith in
    rw z (omega (arith, to_last ends r d i (omega arith), r (i + d) (omega arith)))

pub ordered : (bytes ends : List ℕ) → Rising ends → get_or ends (length ends - 1) 0 ≤ length bytes → InOrder bytes ends
ordered bytes ends r l = record {
  rising = r;
  inside = λ i h.
      let z : i + (length ends - 1 - i) ≡ length ends - 1 = omega arith in
      omega (arith, l, rw z at (to_last ends r (length ends - 1 - i) i (omega arith)));
}

-- one pair of ends more, the first of n that are left
pub one_pair : (ends : List ℕ) (n n' : ℕ) (rising : Bool) (before end : ℕ) → (rising ≡ true → (j : ℕ) → j + n < length ends → get_or ends j 0 ≤ get_or ends (suc j) 0)
    → n' + 1 ≡ n → n ≤ length ends → before ≡ get_or ends (length ends - n + 0) 0 → end ≡ get_or ends (length ends - n + 1) 0
    → (rising && leb before end) ≡ true → (j : ℕ) → j + n' < length ends → get_or ends j 0 ≤ get_or ends (suc j) 0
one_pair ends n n' rising before end f e l p q t j h =
    let u : both rising (leb before end) ≡ true = both_and rising (leb before end) ∙ t in
    by_leb (length ends) (j + n)
    (λ o. let z : length ends - n + 0 ≡ j = omega arith in
    let y : length ends - n + 1 ≡ suc j = omega arith in
    omega (arith, rw z at p, rw y at q, leb-true before end (both_right rising (leb before end) u)))
    (λ o. f (both_left rising (leb before end) u) j o)

-- a byte of ASCII between characters is passed over
past_one : (b : ℕ) (s : List ℕ) → b < 128 → utf8_from 0 (b ∷ s) ≡ utf8_from 0 s
unfolding utf8_from
past_one b s h = ap (λ (st : ℕ). utf8_from st s) (step_ascii b h)

-- and so are those in front
pub past_ascii : (s : List ℕ) → utf8_from 0 s ≡ utf8_from 0 (drop (prefix_len is_ascii s) s)
past_ascii [] = refl
past_ascii (b ∷ s) =
    let z : 1 + prefix_len is_ascii s ≡ suc (prefix_len is_ascii s) = omega arith in
    by_test (ltb b 128)
    (λ t. rw (t, z) (past_one b s (ltb-true b 128 t) ∙ past_ascii s))
    (λ t. rw t refl)

-- and in the rest of a text, as it is lent
pub past_from : (st : ℕ) (s : List ℕ) (i : ℕ) {n : ℕ} → st ≡ 0 → n ≡ prefix_len is_ascii (take (length s - i) (drop i s)) → utf8_from st (drop i s) ≡ utf8_from st (drop (i + n) s)
past_from st s i z e = rw (z, e, tail_part s i) (past_ascii (drop i s) ∙ ap (utf8_from 0) (drop-drop (prefix_len is_ascii (drop i s)) i s))
