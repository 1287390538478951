-- Bytes copied to where they fit. Assumes nothing.
use mathlib.Core.Path.{◌≡◌, refl, sym, ap, ◌∙◌}
use mathlib.Core.List.{List, [], ◌∷◌}
use Prim.Native.Nat.{ℕ, suc, ◌+◌, ◌-◌, ◌<◌, ◌≤◌, min}
use native.Mathlib.Numerals.{add-one}
use native.Mathlib.Nat.{add-zero, add_assoc}
use native.Mathlib.Omega.{arith}
use lib.ListN.{length, get_or, set, take, drop, length-drop}
use lib.Seq.{sets, set_out, length-take-le, take-suc}
use Rattle.std.proofs.lemmas.List.{take-append-drop}
use Rattle.lists.specs.Write.{put, Put, top}
use Rattle.lists.proofs.Writes.{same_piece, kept_length, ◌then◌, wrote, wrote_none}

-- before the first turn of a loop that copies
pub copy_start : (out s : List ℕ) (at : ℕ) → length out ≤ top → at ≤ top → Put out at (take 0 s) out (at + 0)
copy_start out s at h k = rw (add-zero at) (wrote_none h k)

-- a turn
pub copy_turn : (out₀ out s : List ℕ) (at i : ℕ) → i < length s → length out ≤ top → at + i < top → Put out₀ at (take i s) out (at + i)
    → Put out₀ at (take (i + 1) s) (set out (at + i) (get_or s i 0)) (at + (i + 1))
copy_turn out₀ out s at i h l k p =
    let w : Put out (at + i) _ (set out (at + i) (get_or s i 0)) (at + i + 1) = wrote l (omega arith) refl in
    rw (sym (add_assoc at i 1)) (same_piece (sym (rw add-one (take-suc _ _ 0 h))) (p then w))

-- behind the end nothing is written
past_end : (out s : List ℕ) (at : ℕ) → length out ≤ at → put out at s ≡ out
unfolding put
past_end out [] at h = refl
past_end out (b ∷ s) at h = ap (λ (m : List ℕ). sets m (suc at) s) (set_out out at b h) ∙ past_end out s (suc at) (omega arith)

pub passed_all : (out s : List ℕ) (at r : ℕ) → length out ≤ top → length out ≤ at → r ≡ min (at + length s) top → Put out at s out r
passed_all out s at r h l n = record { small = h; next = n; bytes = sym (past_end out s at l) }

-- as many as there is room for
pub copied_some : (out s o : List ℕ) (at q r : ℕ) → at < length out → length out < at + length s → Put out at (take (length out - at) s) o q → r ≡ min (at + length s) top → Put out at s o r
copied_some out s o at q r b e w n =
    let m = length out - at in
    let c : length (take m s) ≡ m = length-take-le m s (omega arith) in
    let g : length o ≡ length out = kept_length w in
    let v = passed_all o (drop m s) q r (omega (arith, g, w.small)) (omega (arith, g, c, w.next, w.small)) (omega (arith, c, n, w.next, w.small, length-drop m s)) in
    same_piece (take-append-drop m s) (w then v)
