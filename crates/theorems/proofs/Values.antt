-- A listed operand's token has the value whose bytes stand in the body, one law a family. Assumes nothing.
use mathlib.Core.Path.{◌≡◌, refl, ap}
use mathlib.Core.Bool.{Bool, true, false}
use mathlib.Core.Logic.{⊎_elim}
use mathlib.Core.List.{List, [], ◌∷◌}
use Prim.Native.Nat.{ℕ, ◌-◌, ◌^◌, ◌%◌, ◌≤◌, ◌<◌}
use native.Mathlib.Omega.{arith}
use lib.Dec.{eqb, leb}
use lib.ListN.{length}
use lib.Seq.{take-append_seam}
use borrow.Author.Tests.{le-leb, leb-true}
use Rattle.lists.specs.Choice.{either}
use Rattle.lists.specs.Scan.{all}
use Rattle.lists.specs.Found.{Found}
use Rattle.lists.specs.Found.Found.{found}
use Rattle.lists.proofs.Tests.{by_leb}
use Rattle.spec_numbers.specs.LittleEndian.{le_bytes}
use Rattle.spec_sheet.specs.Types.{family_of, width_of}
use Rattle.spec_sheet.proofs.TypeLaws.{family_some, family_most, by_address}
use Rattle.spec_strings.specs.Table.{lookup}
use Rattle.spec_inputs.specs.Context.{Context, text_at}
use Rattle.spec_listing.specs.Operand.{distance_of, target_of, operand_text}
use Rattle.spec_listing.proofs.PieceBytes.{QuotedText, quoted_length, quoted_first, quoted_last}
use Rattle.spec_listing.proofs.OperandBits.{bits_32, bits_64, distance_bits, operand_distance, distance_near}
use Rattle.spec_listing.proofs.OperandReadBack.{Lettered, Numbered, operand_register, operand_number, operand_text_lem, operand_address, operand_signed, operand_double}
use Rattle.spec_hasm.specs.Line.{has_hex_prefix}
use Rattle.spec_hasm.specs.Token.{number_or, found_or, register_value, unsigned_value, is_quoted, unquoted, string_value, offset_or, target_in, is_near, distance_to, token_value}
use Rattle.spec_hasm.specs.Token.Value.{value}
use Rattle.theorems.specs.Premises.{good_operand}
use Rattle.theorems.proofs.PremiseLaws.{string_text_lem, string_plain, string_first, operand_string, operand_target, among_all}

-- r and a number
register_value_lem : (n : ℕ) (t : List ℕ) → Lettered 114 n t → register_value t ≡ value n
unfolding register_value number_or
register_value_lem n t l = rw (l.letter_is, l.number_is)

-- a number
unsigned_value_lem : (n : ℕ) (t : List ℕ) → Numbered n t → unsigned_value t ≡ value n
unfolding unsigned_value number_or has_hex_prefix
unsigned_value_lem n t l = rw (l.no_mark, l.no_upper_mark, l.number_is)

-- a quoted text that says the text of an id
module _ (bytes ends said t : List ℕ) (q : QuotedText said t) where
  quoted_yes : is_quoted t ≡ true
  unfolding is_quoted
  quoted_yes = rw (le-leb 2 (length t) (omega (arith, quoted_length said t q)), quoted_last said t q)

  quoted_said : unquoted t ≡ said
  quoted_said =
      let e : length t - 1 ≡ length (34 ∷ q.inner) = omega (arith, quoted_length said t q) in
      rw (e, q.shape, take-append_seam q.inner (34 ∷ [])) q.says

  text_value : (id : ℕ) → lookup said bytes ends ≡ found id → string_value bytes ends t ≡ value id
  unfolding string_value found_or
  text_value id f = rw (quoted_first said t q, quoted_yes, quoted_said, f)

-- L and a target
target_value : (labels : List ℕ → Found) (n : ℕ) (t : List ℕ) → Lettered 76 n t → target_in labels t ≡ value n
unfolding target_in offset_or
target_value labels n t l = rw (l.letter_is, l.number_is)

module _ (code bits : ℕ) (f : family_of code ≡ 4) where
  near_yes : bits < 256 → is_near (distance_of 9 bits) ≡ true
  unfolding is_near
  near_yes h =
      ⊎_elim (λ l. rw (le-leb (distance_of 9 bits) 127 (omega arith))) (λ l. go (leb (distance_of 9 bits) 127) (le-leb (2 ^ 32 - 128) (distance_of 9 bits) l)) (distance_near bits h)
    where
      go : (b : Bool) {c : Bool} → c ≡ true → either b c ≡ true
      go true e = refl
      go false e = e

  near_enough : bits < 256 ^ width_of code → either (eqb (width_of code) 4) (is_near (distance_of code bits)) ≡ true
  unfolding width_of
  near_enough = by_address (λ c. bits < 256 ^ width_of c → either (eqb (width_of c) 4) (is_near (distance_of c bits)) ≡ true) code f near_yes (λ h. refl)

  distance_bytes : bits < 256 ^ width_of code → le_bytes (width_of code) (distance_of code bits) ≡ le_bytes (width_of code) bits
  unfolding width_of le_bytes distance_of family_of
  distance_bytes =
      by_address (λ c. bits < 256 ^ width_of c → le_bytes (width_of c) (distance_of c bits) ≡ le_bytes (width_of c) bits) code f
      (λ h. let e : distance_of 9 bits % 256 ≡ bits = distance_bits 9 bits refl h in let l : bits < 256 = h in ap (λ (b : ℕ). b ∷ []) (omega (arith, e, l)))
      (λ h. refl)

-- a token is read as a value of these bytes
pub record Reads (e : Context) (labels : List ℕ → Found) (at code : ℕ) (t bs : List ℕ) : Type 0 where
  pub bits : ℕ
  pub value_is : token_value e.bytes e.ends labels at code t ≡ value bits
  pub bytes_are : le_bytes (width_of code) bits ≡ bs

-- a listed operand of the instruction at `at`, where no place is past the largest body
module _ (e : Context) (labels : List ℕ → Found) (places : List ℕ) (at code bits : ℕ) (near : at < 2 ^ 31) (low : all (λ x. leb x 65536) places ≡ true) (c-least : 0 < code) (c-most : code ≤ 12) (fits : bits < 256 ^ width_of code) (good : good_operand e places at code bits ≡ true) where
  abbrev listed : List ℕ
  listed = operand_text true e.bytes e.ends at code bits

  abbrev Back : Type 0
  Back = Reads e labels at code listed (le_bytes (width_of code) bits)

  small : (family_of code ≡ 6 → ⊥) → bits < 2 ^ 32
  small n = bits_32 code bits c-most n fits

  register_back : family_of code ≡ 1 → Back
  unfolding token_value
  register_back f = record {
    bits = bits;
    value_is = rw f (register_value_lem bits listed (operand_register true e.bytes e.ends at code bits f (small (λ z. omega arith))));
    bytes_are = refl;
  }

  number_back : family_of code ≡ 2 → Back
  unfolding token_value
  number_back f = record {
    bits = bits;
    value_is = rw f (unsigned_value_lem bits listed (operand_number true e.bytes e.ends at code bits f (small (λ z. omega arith))));
    bytes_are = refl;
  }

  string_back : family_of code ≡ 3 → Back
  unfolding token_value
  string_back f =
      let g = operand_string e places at code bits good f in
      let q = operand_text_lem true e.bytes e.ends at code bits f (string_text_lem e bits g) (string_plain e bits g) in
      record {
        bits = bits;
        value_is = rw f (text_value e.bytes e.ends (text_at e bits) listed q bits (string_first e bits g));
        bytes_are = refl;
      }

  target_low : family_of code ≡ 4 → target_of at code bits < 2 ^ 31
  target_low f =
      let l = leb-true (target_of at code bits) 65536 (among_all (λ x. leb x 65536) (target_of at code bits) places (operand_target e places at code bits good f) low) in
      omega (arith, l)

  address_value : family_of code ≡ 4 → distance_to (width_of code) at (target_in labels listed) ≡ value (distance_of code bits)
  unfolding distance_to
  address_value f =
      let l = operand_address true e.bytes e.ends at code bits f (target_low f) in
      rw (target_value labels (target_of at code bits) listed l, operand_distance code bits f at (omega arith) fits, near_enough code bits f fits)

  address_back : family_of code ≡ 4 → Back
  unfolding token_value
  address_back f = record { bits = distance_of code bits; value_is = rw f (address_value f); bytes_are = distance_bytes code bits f fits }

  signed_back : family_of code ≡ 5 → Back
  unfolding token_value number_or
  signed_back f = record {
    bits = bits;
    value_is = rw (f, operand_signed true e.bytes e.ends at code bits f (small (λ z. omega arith)));
    bytes_are = refl;
  }

  double_back : family_of code ≡ 6 → Back
  unfolding token_value number_or
  double_back f = record {
    bits = bits;
    value_is = rw (f, operand_double true e.bytes e.ends at code bits f (bits_64 code bits fits));
    bytes_are = refl;
  }

  -- whatever its family
  pub operand_back : Back
  operand_back =
      by_leb (family_of code) 1 (λ l. register_back (omega (arith, family_some code c-least c-most)))
      (λ m. by_leb (family_of code) 2 (λ l. number_back (omega arith))
      (λ m. by_leb (family_of code) 3 (λ l. string_back (omega arith))
      (λ m. by_leb (family_of code) 4 (λ l. address_back (omega arith))
      (λ m. by_leb (family_of code) 5 (λ l. signed_back (omega arith))
      (λ m. double_back (omega (arith, family_most code)))))))
