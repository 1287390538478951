-- An operand type's name read by one word. Assumes nothing.
use mathlib.Core.Path.{◌≡◌, refl, ap, sym, ◌∙◌}
use mathlib.Core.Bool.{true, false}
use mathlib.Core.List.{List, ◌∷◌, ◌++◌}
use Prim.Native.Nat.{ℕ, suc, ◌+◌, ◌*◌, ◌/◌, ◌%◌, ◌^◌, ◌≤◌, ◌<◌}
use native.Mathlib.Omega.{arith}
use lib.ListN.{length, drop, get_or, take-append-drop}
use lib.Seq.{drop-drop, drop-cons}
use Rattle.lists.specs.Scan.{Bytes, all, same, run, part}
use Rattle.lists.specs.Text.{text}
use Rattle.lists.proofs.Parts.{part_length}
use Rattle.lists.proofs.Scans.{run_stops}
use Rattle.lists.proofs.Tests.{by_eqb}
use Rattle.spec_numbers.specs.LittleEndian.{le, le_bytes}
use Rattle.spec_sheet.specs.Types.{type_names, type_code_in, type_code}
use Rattle.spec_sheet.specs.Scan.{is_name_byte, type_at}
use Rattle.spec_sheet.specs.Scan.Step.{next}
use Rattle.spec_sheet.proofs.ScanLaws.{type_here}
use Rattle.sheet.specs.TypeWords.{Names}
use Rattle.sheet.proofs.WordLaws.{front_bytes, byte_behind}

module _ (s : List ℕ) (at n : ℕ) (bs : Bytes s) (h : at + 8 ≤ length s) (l : n < 8) where
  -- a name and a byte that is no part of one
  pub word_read : (code : ℕ) → is_name_byte (le (part s at 8) / 256 ^ n % 256) ≡ false → Names n (le (part s at 8) % 256 ^ n) code → (code ≡ 0 → ⊥) → type_at s at ≡ next code (at + n)
  word_read code e w z =
      let t : type_code (part s at n) ≡ code = rw (front_bytes s at n bs h (omega arith)) at w.0 in
      let a : all is_name_byte (part s at n) ≡ true = rw (front_bytes s at n bs h (omega arith)) at w.1 in
      let b : is_name_byte (get_or s (at + n) 0) ≡ false = rw (byte_behind s at n bs h (omega arith) l) at e in
      let d : drop at s ≡ part s at n ++ (get_or s (at + n) 0 ∷ drop (suc (at + n)) s) =
      sym (take-append-drop n (drop at s)) ∙ ap (λ (r : List ℕ). part s at n ++ r) (drop-drop n at s ∙ drop-cons s (at + n) 0 (omega arith)) in
      let r : run is_name_byte (drop at s) ≡ n =
      ap (run is_name_byte) d ∙ (run_stops is_name_byte (part s at n) (get_or s (at + n) 0) (drop (suc (at + n)) s) a b ∙ part_length s at n (omega arith)) in
      type_here s at n code (sym r) (sym t) z

-- four to seven bytes as bits, and the bits below a shifted 1
bits_of : (n : ℕ) → 4 ≤ n → n < 8 → (2 ^ (8 * n) ≡ 256 ^ n) × (1 * 2 ^ (8 * n) % 18446744073709551616 ≡ 256 ^ n)
bits_of n h l =
    by_eqb n 4 (λ e. rw e (refl, refl)) (λ a. by_eqb n 5 (λ e. rw e (refl, refl)) (λ b. by_eqb n 6 (λ e. rw e (refl, refl)) (λ c. let e : n ≡ 7 = omega arith in rw e (refl, refl))))

-- a name that was read by shifts
pub name_read : (s : List ℕ) (at n : ℕ) → Bytes s → at + 8 ≤ length s → 4 ≤ n → n < 8 → (w code : ℕ) → w ≡ le (part s at 8) → is_name_byte (w / 2 ^ (8 * n) % 256) ≡ false
    → Names n (w % (1 * 2 ^ (8 * n) % 18446744073709551616)) code → 0 < code → type_at s at ≡ next code (at + n)
name_read s at n bs h a b w code e z t o =
    let q = bits_of n a b in
    word_read s at n bs h b code (rw (sym q.0, sym e) z) (rw (sym q.1, sym e) t) (λ y. omega arith)

-- the twelve names as numbers
pub reg8 : Names 4 0x38676552 1
unfolding type_code type_code_in type_names le_bytes all is_name_byte same text
reg8 = (refl, refl)

pub reg32 : Names 5 0x3233676552 2
unfolding type_code type_code_in type_names le_bytes all is_name_byte same text
reg32 = (refl, refl)

pub uint8 : Names 5 0x38746e4955 3
unfolding type_code type_code_in type_names le_bytes all is_name_byte same text
uint8 = (refl, refl)

pub uint16 : Names 6 0x3631746e4955 4
unfolding type_code type_code_in type_names le_bytes all is_name_byte same text
uint16 = (refl, refl)

pub uint32 : Names 6 0x3233746e4955 5
unfolding type_code type_code_in type_names le_bytes all is_name_byte same text
uint32 = (refl, refl)

pub uint8_string : Names 6 0x5338746e4955 6
unfolding type_code type_code_in type_names le_bytes all is_name_byte same text
uint8_string = (refl, refl)

pub uint16_string : Names 7 0x533631746e4955 7
unfolding type_code type_code_in type_names le_bytes all is_name_byte same text
uint16_string = (refl, refl)

pub uint32_string : Names 7 0x533233746e4955 8
unfolding type_code type_code_in type_names le_bytes all is_name_byte same text
uint32_string = (refl, refl)

pub addr8 : Names 5 0x3872646441 9
unfolding type_code type_code_in type_names le_bytes all is_name_byte same text
addr8 = (refl, refl)

pub addr32 : Names 6 0x323372646441 10
unfolding type_code type_code_in type_names le_bytes all is_name_byte same text
addr32 = (refl, refl)

pub imm32 : Names 5 0x32336d6d49 11
unfolding type_code type_code_in type_names le_bytes all is_name_byte same text
imm32 = (refl, refl)

pub double : Names 6 0x656c62756f44 12
unfolding type_code type_code_in type_names le_bytes all is_name_byte same text
double = (refl, refl)
