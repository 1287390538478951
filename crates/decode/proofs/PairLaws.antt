-- The words of a record: which they are, and how they are written two by two. Assumes nothing.
use mathlib.Core.Path.{◌≡◌, refl, ap, sym, ◌∙◌}
use mathlib.Core.List.{List, [], ◌∷◌, append_assoc}
use Prim.Native.Nat.{ℕ, zero, suc, ◌+◌, ◌*◌, ◌≤◌, ◌<◌}
use native.Mathlib.Nat.{add-zero, add_assoc}
use native.Mathlib.Omega.{arith}
use lib.ListN.{length, take, drop, get_or, set}
use lib.Seq.{paste, paste-zero, paste-suc, take-paste, drop-paste, take-add, drop-drop}
use Rattle.lists.specs.Scan.{part}
use Rattle.spec_numbers.specs.LittleEndian.{le}
use Rattle.spec_sheet.specs.Types.{width_of, kind_of}
use Rattle.spec_sheet.specs.Row.{sum_by, total_width, length_of, count_of}
use Rattle.spec_body.specs.Record.{pairs, record_of}
use Rattle.spec_body.proofs.DecodeLaws.{length_record}

-- the i-th operand's kind and bits
pub pairs_kind : (row s : List ℕ) (p i : ℕ) → i < length row → get_or (pairs row s p) (2 * i) 0 ≡ kind_of (get_or row i 0)
unfolding pairs
pairs_kind [] s p i h = absurd (omega arith)
pairs_kind (c ∷ row) s p zero h = refl
pairs_kind (c ∷ row) s p (suc i) h =
    let e : 2 * suc i ≡ suc (suc (2 * i)) = omega arith in
    rw e (pairs_kind row s (p + width_of c) i (omega arith))

pub pairs_bits : (row s : List ℕ) (p i : ℕ) → i < length row
    → get_or (pairs row s p) (suc (2 * i)) 0 ≡ le (part s (p + total_width (take i row)) (width_of (get_or row i 0)))
unfolding pairs sum_by
pairs_bits [] s p i h = absurd (omega arith)
pairs_bits (c ∷ row) s p zero h = rw (add-zero p)
pairs_bits (c ∷ row) s p (suc i) h =
    let e : 2 * suc i ≡ suc (suc (2 * i)) = omega arith in
    rw (e, ← add_assoc p (width_of c) (total_width (take i row))) (pairs_bits row s (p + width_of c) i (omega arith))

-- two words more of a list that is written from place k on
pub two_more : (d out r : List ℕ) (k j m a b : ℕ) → k + j + 2 ≤ length d → j + 2 ≤ length r → m ≡ k + j → out ≡ paste d k r j → a ≡ get_or r j 0 → b ≡ get_or r (suc j) 0
    → set (set out m a) (m + 1) b ≡ paste d k r (j + 2)
two_more d out r k j m a b hd hr hm e ea eb =
    let f : m + 1 ≡ k + suc j = omega arith in
    let g : j + 2 ≡ suc (suc j) = omega arith in
    rw (f, g, e, ea, eb, hm, paste-suc d k r j 0 (omega arith) (omega arith)) (paste-suc d k r (suc j) 0 (omega arith) (omega arith))

-- and all that are left of it
pub rest_more : (d r : List ℕ) (k m n : ℕ) → k ≤ length d → m ≤ length r → paste (paste d k r m) (k + m) (drop m r) n ≡ paste d k r (m + n)
rest_more d r k m n hk hm =
    let e : drop (k + m + n) (paste d k r m) ≡ drop (k + (m + n)) d =
    sym (drop-drop n (k + m) (paste d k r m)) ∙ (ap (drop n) (drop-paste d k r m hk hm) ∙ (drop-drop n (k + m) d ∙ ap (λ (x : ℕ). drop x d) (add_assoc k m n))) in
    rw (e, take-paste d k r m hk hm, take-add m n r, append_assoc (take k d) (take m r) (take n (drop m r)))

-- two words and two words and the operands' words are a record
pub record_written : (row s d o₁ o₂ o₃ : List ℕ) (k at first op size count : ℕ) → length row ≡ 8 → k + 20 ≤ length d
    → first ≡ at → op ≡ get_or s at 0 → size ≡ length_of row → count ≡ count_of row
    → o₁ ≡ set (set d k first) (k + 1) op → o₂ ≡ set (set o₁ (k + 2) size) (k + 2 + 1) count → o₃ ≡ paste o₂ (k + 4) (pairs row s (at + 1)) 16
    → o₃ ≡ paste d k (record_of row s at) 20
record_written row s d o₁ o₂ o₃ k at first op size count hr hk ef eo es ec e₁ e₂ e₃ =
    let r = record_of row s at in
    let l : length r ≡ 20 = length_record row s at hr in
    let f₁ : o₁ ≡ paste d k r 2 = e₁ ∙ two_more d d r k 0 k first op (omega arith) (omega arith) (omega arith) (paste-zero d k r) ef eo in
    let f₂ : o₂ ≡ paste d k r 4 =
    e₂ ∙ two_more d o₁ r k 2 (k + 2) size count (omega arith) (omega arith) refl f₁ es ec in
    e₃ ∙ (rw f₂ (rest_more d r k 4 16 (omega arith) (omega arith)))
