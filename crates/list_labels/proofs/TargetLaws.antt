-- Laws of a jump's targets, one operand at a time. Assumes nothing.
use mathlib.Core.Path.{◌≡◌, refl, sym, ◌∙◌}
use mathlib.Core.Bool.{Bool, true, false}
use mathlib.Core.List.{List, [], ◌∷◌, ◌++◌}
use Prim.Native.Nat.{ℕ, ◌^◌, ◌≤◌, ◌<◌}
use native.Mathlib.Omega.{arith}
use lib.Dec.{eqb, ltb}
use lib.ListN.{length}
use borrow.Author.Tests.{lt-ltb, le-ltb, eq-eqb, ne_eqb}
use Rattle.lists.specs.Choice.{pick}
use Rattle.lists.specs.Scan.{part}
use Rattle.lists.proofs.Tests.{by_eqb}
use Rattle.spec_numbers.specs.LittleEndian.{le}
use Rattle.spec_sheet.specs.Types.{width_of, family_of}
use Rattle.spec_sheet.proofs.TypeLaws.{width_some, family_address}
use Rattle.spec_listing.specs.Operand.{target_of}
use Rattle.spec_listing.specs.Labels.{targets}
use Rattle.list_labels.specs.Notes.{Notes, note, note_all}
use Rattle.list_labels.specs.InstructionNotes.{target_in}
use Rattle.list_labels.proofs.NoteLaws.{all_one, all_none}

-- an Addr's target, one that is negative, and an operand that is no Addr
module _ (at code bits : ℕ) where
  pub target_kept : family_of code ≡ 4 → target_of at code bits < 2147483648 → target_in at code bits ≡ target_of at code bits ∷ []
  unfolding target_in
  target_kept e h = rw (eq-eqb (family_of code) 4 e, lt-ltb (target_of at code bits) (2 ^ 31) h)

  pub target_negative : family_of code ≡ 4 → 2147483648 ≤ target_of at code bits → target_in at code bits ≡ []
  unfolding target_in
  target_negative e h = rw (eq-eqb (family_of code) 4 e, le-ltb (target_of at code bits) (2 ^ 31) h)

  pub target_other : (family_of code ≡ 4 → ⊥) → target_in at code bits ≡ []
  unfolding target_in
  target_other e = rw (ne_eqb (family_of code) 4 e)

  -- an operand has a byte for its target
  pub target_most : length (target_in at code bits) ≤ width_of code
  unfolding target_in
  target_most =
      by_eqb (family_of code) 4
      (λ e. rw (eq-eqb (family_of code) 4 e) (few (ltb (target_of at code bits) (2 ^ 31)) (some e)))
      (λ e. rw (ne_eqb (family_of code) 4 e) (omega arith))
    where
      some : family_of code ≡ 4 → 1 ≤ width_of code
      some e = width_some code (omega (arith, family_address code e)) (omega (arith, family_address code e))

      few : (p : Bool) → 1 ≤ width_of code → length (pick p (target_of at code bits ∷ []) []) ≤ width_of code
      few true h = h
      few false h = omega arith

  -- the targets of a row, the first apart
  pub targets_first : (k : ℕ) (codes rest : List ℕ) → targets at (code ∷ codes) (k ∷ bits ∷ rest) ≡ target_in at code bits ++ targets at codes rest
  unfolding targets target_in
  targets_first k codes rest = go (eqb (family_of code) 4) (ltb (target_of at code bits) (2 ^ 31)) (targets at codes rest)
    where
      go : (p q : Bool) (r : List ℕ) → pick p (pick q (target_of at code bits ∷ r) r) r ≡ pick p (pick q (target_of at code bits ∷ []) []) [] ++ r
      go true true r = refl
      go true false r = refl
      go false q r = refl

-- noting the target of an operand whose bits were read, where it is an Addr's
module _ (n : Notes) (s : List ℕ) (p at code bits target : ℕ) (b : bits ≡ le (part s p (width_of code))) (t : target ≡ target_of at code bits) (f : family_of code ≡ 4) where
  pub kept_noted : (n' : Notes) → target < 2147483648 → n' ≡ note n target → n' ≡ note_all n (target_in at code (le (part s p (width_of code))))
  kept_noted n' h q =
      let k : target_of at code bits < 2147483648 = rw (sym t) h in
      rw (sym b, target_kept at code bits f k, sym t) (q ∙ sym (all_one n target))

  pub negative_noted : 2147483648 ≤ target → n ≡ note_all n (target_in at code (le (part s p (width_of code))))
  negative_noted h =
      let k : 2147483648 ≤ target_of at code bits = rw (sym t) h in
      rw (sym b, target_negative at code bits f k) (sym (all_none n))

-- and where it is not
pub other_noted : (n : Notes) (at code bits : ℕ) → (family_of code ≡ 4 → ⊥) → n ≡ note_all n (target_in at code bits)
other_noted n at code bits e = rw (target_other at code bits e) (sym (all_none n))

-- the target of a short jump, where there is one: `x` was noted if it is one, or is negative
module _ (n : Notes) (at bits next x : ℕ) where
  pub short_kept : (short : Bool) → x ≡ pick short (target_of at 9 bits) next → (n' : Notes) → x < 2147483648 → n' ≡ note_all n (pick short (x ∷ []) [])
      → n' ≡ note_all n (pick short (target_in at 9 bits) [])
  unfolding family_of
  short_kept true t n' h q =
      let k : target_of at 9 bits < 2147483648 = rw (sym t) h in
      rw (target_kept at 9 bits refl k, sym t) q
  short_kept false t n' h q = q

  pub short_negative : (short : Bool) → x ≡ pick short (target_of at 9 bits) next → 2147483648 ≤ x → n ≡ note_all n (pick short (target_in at 9 bits) [])
  unfolding family_of
  short_negative true t h =
      let k : 2147483648 ≤ target_of at 9 bits = rw (sym t) h in
      rw (target_negative at 9 bits refl k) (sym (all_none n))
  short_negative false t h = sym (all_none n)
