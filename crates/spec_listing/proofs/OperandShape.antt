-- The six forms of a listed operand, by family. Assumes nothing.
use mathlib.Core.Path.{◌≡◌}
use mathlib.Core.Bool.{Bool, true, false}
use mathlib.Core.List.{List, ◌∷◌}
use Prim.Native.Nat.{ℕ, ◌^◌, ◌<◌}
use lib.Dec.{ltb}
use lib.ListN.{length}
use borrow.Author.Tests.{eq-eqb, ne_eqb}
use Rattle.lists.specs.Choice.{both}
use Rattle.lists.proofs.Tests.{by_eqb, by_test}
use Rattle.spec_numbers.specs.TwosComplement.{signed}
use Rattle.spec_numbers.specs.Print.{decimal, signed_decimal}
use Rattle.spec_numbers.specs.Double.{print_double}
use Rattle.spec_numbers.proofs.PrintLaws.{signed_decimal_lem}
use Rattle.spec_sheet.specs.Types.{family_of}
use Rattle.spec_strings.specs.Table.{text_of}
use Rattle.spec_strings.specs.Escape.{quoted}
use Rattle.spec_listing.specs.Operand.{target_of, string_text, operand_text}

module _ (texts : Bool) (bytes ends : List ℕ) (at code bits : ℕ) where
  -- a register: r and the number
  pub register_text : family_of code ≡ 1 → operand_text texts bytes ends at code bits ≡ 114 ∷ decimal bits
  unfolding operand_text
  register_text e = rw e

  -- a number
  pub number_text : family_of code ≡ 2 → operand_text texts bytes ends at code bits ≡ decimal bits
  unfolding operand_text
  number_text e = rw e

  -- a string id
  pub string_text_lem : family_of code ≡ 3 → operand_text texts bytes ends at code bits ≡ string_text texts bytes ends bits
  unfolding operand_text
  string_text_lem e = rw e

  -- one that has a text, where texts are shown
  pub shown_text : family_of code ≡ 3 → both texts (ltb bits (length ends)) ≡ true → operand_text texts bytes ends at code bits ≡ quoted (text_of bytes ends bits)
  unfolding operand_text string_text
  shown_text e h = rw (e, h)

  -- one that has none, or where texts are not shown
  pub id_text : family_of code ≡ 3 → both texts (ltb bits (length ends)) ≡ false → operand_text texts bytes ends at code bits ≡ decimal bits
  unfolding operand_text string_text
  id_text e h = rw (e, h)

  -- an address: L and the target as a signed number
  pub address_text : family_of code ≡ 4 → operand_text texts bytes ends at code bits ≡ 76 ∷ signed_decimal (signed 32 (target_of at code bits))
  unfolding operand_text
  address_text e = rw e

  -- one whose target's sign bit is clear
  pub target_text : family_of code ≡ 4 → target_of at code bits < 2 ^ 31 → operand_text texts bytes ends at code bits ≡ 76 ∷ decimal (target_of at code bits)
  target_text e h = rw (address_text e, signed_decimal_lem (target_of at code bits) h)

  -- a signed number
  pub signed_text : family_of code ≡ 5 → operand_text texts bytes ends at code bits ≡ signed_decimal (signed 32 bits)
  unfolding operand_text
  signed_text e = rw e

  -- a double
  pub double_text : family_of code ≡ 6 → operand_text texts bytes ends at code bits ≡ print_double bits
  unfolding operand_text
  double_text e = rw e

  -- what holds of each form holds of the operand, whatever its code
  pub by_family : (P : List ℕ → Type 0) → (family_of code ≡ 1 → P (114 ∷ decimal bits)) → (family_of code ≡ 2 → P (decimal bits))
      → (family_of code ≡ 3 → P (string_text texts bytes ends bits)) → (family_of code ≡ 4 → P (76 ∷ signed_decimal (signed 32 (target_of at code bits))))
      → (family_of code ≡ 5 → P (signed_decimal (signed 32 bits))) → P (print_double bits) → P (operand_text texts bytes ends at code bits)
  unfolding operand_text
  by_family P reg uint str addr imm double =
      by_eqb (family_of code) 1 (λ e. rw (eq-eqb _ _ e) (reg e))
      (λ n₁. by_eqb (family_of code) 2 (λ e. rw (ne_eqb _ _ n₁, eq-eqb _ _ e) (uint e))
      (λ n₂. by_eqb (family_of code) 3 (λ e. rw (ne_eqb _ _ n₁, ne_eqb _ _ n₂, eq-eqb _ _ e) (str e))
      (λ n₃. by_eqb (family_of code) 4 (λ e. rw (ne_eqb _ _ n₁, ne_eqb _ _ n₂, ne_eqb _ _ n₃, eq-eqb _ _ e) (addr e))
      (λ n₄. by_eqb (family_of code) 5 (λ e. rw (ne_eqb _ _ n₁, ne_eqb _ _ n₂, ne_eqb _ _ n₃, ne_eqb _ _ n₄, eq-eqb _ _ e) (imm e))
      (λ n₅. rw (ne_eqb _ _ n₁, ne_eqb _ _ n₂, ne_eqb _ _ n₃, ne_eqb _ _ n₄, ne_eqb _ _ n₅) double)))))

-- a string id is shown by its text, or by its number
pub by_text : (P : List ℕ → Type 0) (texts : Bool) (bytes ends : List ℕ) (id : ℕ)
    → (both texts (ltb id (length ends)) ≡ true → P (quoted (text_of bytes ends id))) → (both texts (ltb id (length ends)) ≡ false → P (decimal id))
    → P (string_text texts bytes ends id)
unfolding string_text
by_text P texts bytes ends id shown number =
    by_test (both texts (ltb id (length ends))) (λ h. rw h (shown h)) (λ h. rw h (number h))
