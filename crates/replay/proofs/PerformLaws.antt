-- What the operations on numbers and escapes answer and leave, case by case. Assumes nothing.
use mathlib.Core.Path.{◌≡◌, ap, ◌∙◌}
use mathlib.Core.Bool.{false}
use mathlib.Core.List.{List}
use Prim.Native.Nat.{ℕ, ◌<◌, ◌≤◌, min}
use native.Mathlib.Omega.{arith}
use borrow.Author.Tests.{eq-eqb, ne_eqb, lt-ltb, le-ltb}
use lib.ListN.{length}
use Rattle.lists.specs.Scan.{part}
use Rattle.lists.specs.Write.{Put, put, top}
use Rattle.spec_numbers.specs.LittleEndian.{le, le_bytes}
use Rattle.spec_numbers.specs.Parse.{parse_u32, parse_hex, parse_i32}
use Rattle.spec_numbers.specs.Print.{decimal, signed_decimal, hex_lower4}
use Rattle.spec_numbers.specs.TwosComplement.{signed}
use Rattle.spec_numbers.specs.Double.{read_double, print_double}
use Rattle.numbers.specs.Answers.{number_of}
use Rattle.spec_strings.specs.Escape.{quoted, unescape}
use Rattle.answers.specs.Report.{refusal, success, zeros}
use Rattle.desk_parts.specs.Parts.{part_of}
use Rattle.desk_parts.specs.declared.PartNumber.{PartNumber}
use Rattle.replay.specs.Performs.{done, reported, broken, printed, valued, number_printed, input_printed, part_performed}
use Rattle.std.proofs.Common.{Ok}
use Rattle.answers.specs.Numbers.{numbers_of}
use Rattle.answers.specs.declared.report.Numbers.{Numbers}

-- a text was printed
pub was_printed : {t lent after : List ℕ} {k : ℕ} {r : Numbers} → Put lent 0 t after k → r ≡ numbers_of (success k) → done (Ok r) after ≡ printed t lent
unfolding printed
was_printed {t} {lent} {after} {k} {r} p e =
    let n : k ≡ min (length t) top = omega (arith, p.next) in
    let f : r ≡ numbers_of (success (min (length t) top)) = e ∙ ap (λ (n : ℕ). numbers_of (success n)) n in
    rw (f, p.bytes)

-- a value was read, or there is none
module _ (n : PartNumber) (lent : List ℕ) {after : List ℕ} {r : Numbers} where
  pub value_there : n.found ≡ 1 → r ≡ numbers_of (success 0) → after ≡ put lent 0 (le_bytes 8 n.value) → done (Ok r) after ≡ valued n lent
  unfolding valued
  value_there f e p = rw (eq-eqb _ _ f, e, p)

  pub value_none : (n.found ≡ 1 → ⊥) → r ≡ numbers_of (refusal 1 0 0) → after ≡ zeros lent → done (Ok r) after ≡ valued n lent
  unfolding valued
  value_none f e p = rw (ne_eqb _ _ f, e, p)

-- a number printed, by the operation
module _ (operation n : ℕ) (lent : List ℕ) where
  pub as_decimal : operation ≡ 7 → printed (decimal n) lent ≡ number_printed operation n lent
  unfolding number_printed
  as_decimal e = rw e

  pub as_hex : operation ≡ 9 → printed (hex_lower4 n) lent ≡ number_printed operation n lent
  unfolding number_printed
  as_hex e = rw e

  pub as_double : operation ≡ 10 → printed (print_double n) lent ≡ number_printed operation n lent
  unfolding number_printed
  as_double e = rw e

  pub as_none : (operation ≡ 7 → ⊥) → (operation ≡ 8 → ⊥) → (operation ≡ 9 → ⊥) → (operation ≡ 10 → ⊥) → broken lent ≡ number_printed operation n lent
  unfolding number_printed
  as_none a b c d = rw (ne_eqb _ _ a, ne_eqb _ _ b, ne_eqb _ _ c, ne_eqb _ _ d)

-- a signed number, and one that has more than 32 bits
module _ (n : ℕ) (lent : List ℕ) where
  pub too_wide : 4294967295 < n → broken lent ≡ number_printed 8 n lent
  unfolding number_printed
  too_wide h = rw (lt-ltb 4294967295 n h)

  pub as_signed : n ≤ 4294967295 → printed (signed_decimal (signed 32 n)) lent ≡ number_printed 8 n lent
  unfolding number_printed
  as_signed h = rw (le-ltb 4294967295 n h)

-- the number of 8 bytes, and an input of another length
module _ (operation : ℕ) (input lent : List ℕ) where
  pub of_eight : length input ≡ 8 → number_printed operation (le (part input 0 8)) lent ≡ input_printed operation input lent
  unfolding input_printed
  of_eight e = rw (eq-eqb _ _ e)

  pub not_eight : (length input ≡ 8 → ⊥) → broken lent ≡ input_printed operation input lent
  unfolding input_printed
  not_eight n = rw (ne_eqb _ _ n)

  -- an operation by its number
  pub reads_u32 : operation ≡ 3 → valued (part_of (number_of (parse_u32 input))) lent ≡ part_performed operation input lent
  unfolding part_performed
  reads_u32 e = rw e

  pub reads_hex : operation ≡ 4 → valued (part_of (number_of (parse_hex input))) lent ≡ part_performed operation input lent
  unfolding part_performed
  reads_hex e = rw e

  pub reads_i32 : operation ≡ 5 → valued (part_of (number_of (parse_i32 input))) lent ≡ part_performed operation input lent
  unfolding part_performed
  reads_i32 e = rw e

  pub reads_double : operation ≡ 6 → valued (part_of (number_of (read_double input))) lent ≡ part_performed operation input lent
  unfolding part_performed
  reads_double e = rw e

  pub escapes : operation ≡ 11 → printed (quoted input) lent ≡ part_performed operation input lent
  unfolding part_performed
  escapes e = rw e

  pub unescapes : operation ≡ 12 → printed (unescape false input) lent ≡ part_performed operation input lent
  unfolding part_performed
  unescapes e = rw e

  pub prints : (operation ≡ 3 → ⊥) → (operation ≡ 4 → ⊥) → (operation ≡ 5 → ⊥) → (operation ≡ 6 → ⊥) → (operation ≡ 11 → ⊥) → (operation ≡ 12 → ⊥)
      → input_printed operation input lent ≡ part_performed operation input lent
  unfolding part_performed
  prints a b c d e f = rw (ne_eqb _ _ a, ne_eqb _ _ b, ne_eqb _ _ c, ne_eqb _ _ d, ne_eqb _ _ e, ne_eqb _ _ f)
