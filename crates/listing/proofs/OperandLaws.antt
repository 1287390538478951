-- The text of one operand, by its family. Assumes nothing.
use mathlib.Core.Path.{◌≡◌, refl, sym}
use mathlib.Core.Bool.{Bool, true, false}
use mathlib.Core.List.{List, [], ◌++◌}
use Prim.Native.Nat.{ℕ, ◌-◌, ◌^◌, ◌≤◌, ◌<◌}
use native.Mathlib.Nat.{lt_of_lt_of_le, pow-le-pow_right}
use native.Mathlib.Omega.{arith}
use lib.Dec.{eqb, ltb, leb}
use lib.ListN.{length, get_or-eq_default}
use borrow.Author.Tests.{ltb-true, lt-ltb, leb-true, le-leb, ne_eqb}
use Rattle.lists.specs.Choice.{pick, both}
use Rattle.lists.specs.Scan.{part}
use Rattle.lists.proofs.Tests.{by_leb, by_eqb, both_left, both_right, true_not_false}
use Rattle.spec_numbers.specs.Print.{decimal, signed_decimal}
use Rattle.spec_numbers.specs.TwosComplement.{signed}
use Rattle.spec_numbers.specs.Double.{print_double}
use Rattle.spec_sheet.specs.Types.{widths, width_of, family_of, string_family}
use Rattle.spec_sheet.proofs.TypeLaws.{below, implies, by_codes}
use Rattle.spec_strings.specs.Table.{text_of, entry_start, entry_end}
use Rattle.spec_strings.specs.Escape.{quoted}
use Rattle.strings.specs.Answers.{entry_at, entry_of}
use Rattle.strings.specs.declared.table.Entry.{Entry}
use Rattle.std.specs.Prelude.{Option, Some, None}
use Rattle.spec_listing.specs.Operand.{target_of, string_text, operand_text}
use Rattle.sheet.specs.declared.family.Family.{Family}
use Rattle.sheet.specs.declared.family.Family.TheVariants.{NoOperand, Reg, UInt, Str, Addr, Imm32, Double}
use Rattle.sheet.specs.Families.{family_number}
use Rattle.spec_numbers.specs.LittleEndian.{le_bytes}
use Rattle.listing.specs.Numbers.{front_text, signed_family, value_text}

-- an id with a text, one without, and one whose text is not shown
module _ (bytes ends : List ℕ) (id : ℕ) where
  pub id_quoted : (x : Entry) → entry_of ends id ≡ Some x → quoted (part bytes x.start (x.end - x.start)) ≡ string_text true bytes ends id
  unfolding entry_of string_text
  id_quoted x = go (ltb id (length ends))
    where
      go : (b : Bool) → pick {A = Option Entry} b (Some (entry_at ends id)) None ≡ Some x → quoted (part bytes x.start (x.end - x.start)) ≡ pick b (quoted (text_of bytes ends id)) (decimal id)
      go true e = let p : entry_at ends id ≡ x = cc e in rw (sym p)
      go false e = cc e

  pub id_missing : entry_of ends id ≡ None → decimal id ≡ string_text true bytes ends id
  unfolding entry_of string_text
  id_missing = go (ltb id (length ends))
    where
      go : (b : Bool) → pick {A = Option Entry} b (Some (entry_at ends id)) None ≡ None → decimal id ≡ pick b (quoted (text_of bytes ends id)) (decimal id)
      go true e = cc e
      go false e = refl

  pub id_hidden : decimal id ≡ string_text false bytes ends id
  unfolding string_text
  id_hidden = refl

-- a number of a family behind the strings' has a sign
pub behind_strings : (family n : ℕ) → string_family < family → value_text family n ≡ signed_decimal (signed 32 n)
unfolding value_text
behind_strings family n h = rw (lt-ltb string_family family h)

-- an operand that is no double has at most 32 bits
pub short_bits : (code bits : ℕ) → family_of code ≤ 5 → bits < 256 ^ width_of code → bits < 4294967296
unfolding below implies family_of width_of
short_bits code bits f h =
    let w : width_of code ≤ 4 = by_leb code 12
    (λ l. leb-true (width_of code) 4 (by_codes (λ d. leb (family_of d) 5) (λ d. leb (width_of d) 4) refl code l (le-leb (family_of code) 5 f)))
    (λ l. let z : length widths ≤ code = omega arith in omega (arith, get_or-eq_default widths 0 z)) in
    lt_of_lt_of_le h (pow-le-pow_right {n = 256} (omega arith) w)

-- what stands in front of numbers of a family, and whether they have a sign
pub front_other : (f : Family) → (f ≡ Reg → ⊥) → (f ≡ Addr → ⊥) → front_text (family_number f) ≡ []
unfolding front_text family_number
front_other NoOperand a b = refl
front_other Reg a b = absurd (a refl)
front_other UInt a b = refl
front_other Str a b = refl
front_other Addr a b = absurd (b refl)
front_other Imm32 a b = refl
front_other Double a b = refl

pub front_no_r : (f : Family) → (f ≡ Reg → ⊥) → le_bytes (length (front_text (family_number f))) 76 ≡ front_text (family_number f)
unfolding front_text family_number le_bytes
front_no_r NoOperand a = refl
front_no_r Reg a = absurd (a refl)
front_no_r UInt a = refl
front_no_r Str a = refl
front_no_r Addr a = refl
front_no_r Imm32 a = refl
front_no_r Double a = refl

pub unsigned_other : (f : Family) → (f ≡ Addr → ⊥) → (f ≡ Imm32 → ⊥) → signed_family (family_number f) ≡ false
unfolding family_number
unsigned_other NoOperand a b = refl
unsigned_other Reg a b = refl
unsigned_other UInt a b = refl
unsigned_other Str a b = refl
unsigned_other Addr a b = absurd (a refl)
unsigned_other Imm32 a b = absurd (b refl)
unsigned_other Double a b = refl

-- of all but a Double those with a sign are behind the strings
pub signed_behind : (f : Family) → (f ≡ Double → ⊥) → signed_family (family_number f) ≡ ltb string_family (family_number f)
unfolding family_number
signed_behind NoOperand a = refl
signed_behind Reg a = refl
signed_behind UInt a = refl
signed_behind Str a = refl
signed_behind Addr a = refl
signed_behind Imm32 a = refl
signed_behind Double a = absurd (a refl)

pub no_addr : (f : Family) → (f ≡ Addr → ⊥) → eqb (family_number f) 4 ≡ false
unfolding family_number
no_addr NoOperand a = refl
no_addr Reg a = refl
no_addr UInt a = refl
no_addr Str a = refl
no_addr Addr a = absurd (a refl)
no_addr Imm32 a = refl
no_addr Double a = refl

-- by family
module _ (texts : Bool) (bytes ends : List ℕ) (at code bits : ℕ) where
  abbrev text_here : List ℕ
  text_here = operand_text texts bytes ends at code bits

  -- a number has 32 bits at most, and is printed as one
  pub number_small : (f : Family) → family_number f ≡ family_of code → (f ≡ Str → ⊥) → (f ≡ NoOperand → ⊥) → (f ≡ Double → ⊥) → family_of code ≤ 5
  unfolding family_number
  number_small NoOperand e a b c = absurd (b refl)
  number_small Reg e a b c = omega arith
  number_small UInt e a b c = omega arith
  number_small Str e a b c = absurd (a refl)
  number_small Addr e a b c = omega arith
  number_small Imm32 e a b c = omega arith
  number_small Double e a b c = absurd (c refl)

  pub of_number : (f : Family) → family_number f ≡ family_of code → (f ≡ Str → ⊥) → (f ≡ NoOperand → ⊥) → (f ≡ Double → ⊥)
      → front_text (family_number f) ++ value_text (family_number f) (pick (eqb (family_of code) 4) (target_of at code bits) bits) ≡ text_here
  unfolding operand_text front_text value_text family_number
  of_number NoOperand e a b c = absurd (b refl)
  of_number Reg e a b c = rw (sym e) refl
  of_number UInt e a b c = rw (sym e) refl
  of_number Str e a b c = absurd (a refl)
  of_number Addr e a b c = rw (sym e) refl
  of_number Imm32 e a b c = rw (sym e) refl
  of_number Double e a b c = absurd (c refl)

  pub of_string : 3 ≡ family_of code → string_text texts bytes ends bits ≡ text_here
  unfolding operand_text
  of_string e = rw (sym e)

  pub of_none : 0 ≡ family_of code → print_double bits ≡ text_here
  unfolding operand_text
  of_none e = rw (sym e)

  pub of_double : 6 ≡ family_of code → print_double bits ≡ text_here
  unfolding operand_text
  of_double e = rw (sym e)
