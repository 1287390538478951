-- A type's name has four bytes or more, so that a word may be counted from its fifth byte on. Assumes nothing.
use mathlib.Core.Path.{◌≡◌, refl, ap, sym, ◌∙◌}
use mathlib.Core.Bool.{Bool, true}
use mathlib.Core.List.{List, [], ◌∷◌, ◌++◌}
use Prim.Native.Nat.{ℕ, zero, suc, ◌+◌, ◌-◌, ◌≤◌, ◌<◌}
use native.Mathlib.Omega.{arith}
use lib.Dec.{leb}
use lib.ListN.{length, take, drop, length-take, length-drop, take-append-drop}
use lib.Seq.{length-take-le, drop-drop}
use borrow.Author.Tests.{leb-true}
use Rattle.lists.specs.Choice.{both}
use Rattle.lists.specs.Scan.{run, all, same, part}
use Rattle.lists.specs.Text.{text}
use Rattle.lists.proofs.Tests.{both_left, both_right, both_yes, by_test, by_eqb}
use Rattle.lists.proofs.Scans.{run_cons_go, same_eq}
use Rattle.spec_sheet.specs.Types.{type_names, type_code_in, type_code}
use Rattle.spec_sheet.specs.Scan.{is_name_byte, type_at}
use Rattle.spec_sheet.specs.Scan.Step.{next, off}
use Rattle.spec_sheet.proofs.TypeLaws.{code_other}
use Rattle.spec_sheet.proofs.ScanLaws.{type_here, type_off}
use Rattle.spec_sheet.proofs.NameTextLaws.{run_all_taken}

-- every name of a list passes a test
unfoldable each : (List ℕ → Bool) → List (List ℕ) → Bool
each q [] = true
each q (name ∷ names) = both (q name) (each q names)

-- so does a word that has a code
coded : (q : List ℕ → Bool) (names : List (List ℕ)) (k : ℕ) (word : List ℕ) → each q names ≡ true → (type_code_in names k word ≡ 0 → ⊥) → q word ≡ true
unfolding each type_code_in
coded q [] k word e h = absurd (h refl)
coded q (name ∷ names) k word e h =
    by_test (same word name)
    (λ f. rw (same_eq word name f) (both_left (q name) (each q names) e))
    (λ f. coded q names (suc k) word (both_right (q name) (each q names) e) (λ z. h (code_other name names word k f ∙ z)))

-- four bytes or more, all of them letters and digits
type_word : List ℕ → Bool
type_word w = both (leb 4 (length w)) (all is_name_byte w)

module _ (w : List ℕ) (h : type_code w ≡ 0 → ⊥) where
  word_passes : type_word w ≡ true
  unfolding type_code type_names each type_word text all is_name_byte
  word_passes = coded type_word type_names 1 w refl h

  word_long : 4 ≤ length w
  unfolding type_word
  word_long = leb-true 4 (length w) (both_left (leb 4 (length w)) (all is_name_byte w) word_passes)

  word_named : all is_name_byte w ≡ true
  unfolding type_word
  word_named = both_right (leb 4 (length w)) (all is_name_byte w) word_passes

-- where all elements pass, those in front do
all_front : (p : ℕ → Bool) (n m : ℕ) (l : List ℕ) → n ≤ m → all p (take m l) ≡ true → all p (take n l) ≡ true
unfolding all
all_front p zero m l h e = refl
all_front p (suc n) zero l h e = absurd (omega arith)
all_front p (suc n) (suc m) [] h e = refl
all_front p (suc n) (suc m) (b ∷ l) h e =
    both_yes (p b) (all p (take n l)) (both_left (p b) (all p (take m l)) e) (all_front p n m l (omega arith) (both_right (p b) (all p (take m l)) e))

-- a run goes on behind elements that pass
run_past : (p : ℕ → Bool) (t u : List ℕ) → all p t ≡ true → run p (t ++ u) ≡ length t + run p u
unfolding all
run_past p [] u e = omega arith
run_past p (b ∷ t) u e = run_cons_go p b (t ++ u) (both_left (p b) (all p t) e) ∙ omega (arith, run_past p t u (both_right (p b) (all p t) e))

module _ (s : List ℕ) (at : ℕ) where
  -- the whole word, where its first four bytes pass
  four_past : at + 4 ≤ length s → all is_name_byte (take 4 (drop at s)) ≡ true → run is_name_byte (drop at s) ≡ 4 + run is_name_byte (drop (at + 4) s)
  four_past i h =
      let l : length (take 4 (drop at s)) ≡ 4 = length-take-le 4 (drop at s) (rw length-drop (omega arith)) in
      ap (run is_name_byte) (sym (take-append-drop 4 (drop at s))) ∙ run_past is_name_byte (take 4 (drop at s)) (drop 4 (drop at s)) h ∙ rw (l, drop-drop 4 at s)

  -- fewer than four bytes are left
  pub word_short : length s < at + 4 → type_at s at ≡ off
  word_short h =
      let k = run is_name_byte (drop at s) in
      by_eqb (type_code (part s at k)) 0
      (λ z. type_off s at k (type_code (part s at k)) refl refl z)
      (λ z. absurd (omega (arith, word_long (part s at k) z, length-take k (drop at s), length-drop at s)))

  module _ (k : ℕ) (i : at + 4 ≤ length s) (e : k ≡ 4 + run is_name_byte (drop (at + 4) s)) (code : ℕ) (f : code ≡ type_code (part s at k)) where
    -- the word is a type's name
    pub word_here : (code ≡ 0 → ⊥) → type_at s at ≡ next code (at + k)
    word_here h =
        let a = word_named (part s at k) (λ z. h (f ∙ z)) in
        type_here s at k code (e ∙ sym (four_past i (all_front is_name_byte 4 k (drop at s) (omega (arith, e)) a))) f h

    -- or it is none
    pub word_off : code ≡ 0 → type_at s at ≡ off
    word_off h = by_eqb (type_code (part s at n)) 0 (λ z. type_off s at n (type_code (part s at n)) refl refl z) (λ z. absurd (z (other z)))
      where
        n : ℕ
        n = run is_name_byte (drop at s)

        other : (type_code (part s at n) ≡ 0 → ⊥) → type_code (part s at n) ≡ 0
        other z =
            let m : 4 ≤ n = omega (arith, word_long (part s at n) z, length-take n (drop at s)) in
            let q : n ≡ k = four_past i (all_front is_name_byte 4 n (drop at s) m (run_all_taken is_name_byte (drop at s))) ∙ sym e in
            ap (λ (j : ℕ). type_code (part s at j)) q ∙ sym f ∙ h
