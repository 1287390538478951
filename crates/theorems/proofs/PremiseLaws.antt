-- What the premises of the circle say, one by one. Assumes nothing.
use mathlib.Core.Path.{◌≡◌, refl, ap}
use mathlib.Core.Bool.{Bool, true, false, not}
use mathlib.Core.List.{List, [], ◌∷◌}
use Prim.Native.Nat.{ℕ, ◌<◌}
use native.Mathlib.Omega.{arith}
use lib.Dec.{eqb, leb}
use lib.ListN.{length, get_or, drop}
use borrow.Author.Tests.{eqb-true, le-leb}
use Rattle.lists.specs.Choice.{both}
use Rattle.lists.specs.Scan.{all, same}
use Rattle.lists.specs.Text.{text}
use Rattle.lists.specs.Found.{Found}
use Rattle.lists.specs.Found.Found.{found, missing}
use Rattle.lists.proofs.Tests.{both_left, both_right, both_yes, by_eqb, not-true, true_not_false}
use Rattle.lists.proofs.Scans.{same_refl}
use Rattle.spec_sheet.specs.Types.{family_of}
use Rattle.spec_sheet.proofs.NameTextLaws.{either_cases}
use Rattle.spec_strings.specs.Table.{lookup}
use Rattle.spec_strings.specs.Plain.{plain}
use Rattle.spec_body.proofs.DecodeLaws.{Decoding}
use Rattle.spec_body.proofs.DecodeLaws.Decoding.{ended, more}
use Rattle.spec_inputs.specs.Context.{Context, name_of, has_text, text_at}
use Rattle.spec_listing.specs.Operand.{target_of}
use Rattle.spec_body.specs.Record.{offset_of, opcode_of, pairs_of}
use Rattle.spec_body.specs.Starts.{places_of}
use Rattle.spec_listing.specs.Labels.{among}
use Rattle.spec_inputs.proofs.NameLaws.{gap_name}
use Rattle.theorems.specs.Premises.{answers, good_string, good_operand, good_operands, good_record, good_records}

answers_found : (id : ℕ) (f : Found) → answers id f ≡ true → f ≡ found id
unfolding answers
answers_found id (found k) e = ap found (eqb-true k id e)
answers_found id missing e = true_not_false false e refl

-- a string id
module _ (e : Context) (id : ℕ) (g : good_string e id ≡ true) where
  rest : both (plain (text_at e id)) (answers id (lookup (text_at e id) e.bytes e.ends)) ≡ true
  unfolding good_string
  rest = both_right (has_text e id) _ g

  pub string_text_lem : has_text e id ≡ true
  unfolding good_string
  string_text_lem = both_left (has_text e id) _ g

  pub string_plain : plain (text_at e id) ≡ true
  string_plain = both_left (plain (text_at e id)) _ rest

  pub string_first : lookup (text_at e id) e.bytes e.ends ≡ found id
  string_first = answers_found id (lookup (text_at e id) e.bytes e.ends) (both_right (plain (text_at e id)) _ rest)

-- an operand
module _ (e : Context) (places : List ℕ) (at code bits : ℕ) (g : good_operand e places at code bits ≡ true) where
  pub operand_string : family_of code ≡ 3 → good_string e bits ≡ true
  unfolding good_operand
  operand_string f = rw f at g

  pub operand_target : family_of code ≡ 4 → among (target_of at code bits) places ≡ true
  unfolding good_operand
  operand_target f = rw f at g

-- the operands of a row
module _ (e : Context) (places : List ℕ) (at code : ℕ) (codes pairs : List ℕ) (g : good_operands e places at (code ∷ codes) pairs ≡ true) where
  pub operands_first : good_operand e places at code (get_or pairs 1 0) ≡ true
  unfolding good_operands
  operands_first = both_left (good_operand e places at code (get_or pairs 1 0)) _ g

  pub operands_rest : good_operands e places at codes (drop 2 pairs) ≡ true
  unfolding good_operands
  operands_rest = both_right (good_operand e places at code (get_or pairs 1 0)) _ g

-- an instruction
module _ (e : Context) (places r : List ℕ) (g : good_record e places r ≡ true) where
  -- it has a name of the sheet
  pub record_named : 0 < get_or (get_or e.infos (opcode_of r) []) 3 0
  unfolding good_record
  record_named =
      by_eqb (get_or (get_or e.infos (opcode_of r) []) 3 0) 0
      (λ z. true_not_false (same (name_of e (opcode_of r)) (text "<invalid>")) (rw (gap_name e (opcode_of r) z) (same_refl (text "<invalid>"))) (not-true _ (both_left (not (same (name_of e (opcode_of r)) (text "<invalid>"))) _ g)))
      (λ n. omega (arith, n))

  pub record_operands : good_operands e places (offset_of r) (get_or e.types (opcode_of r) []) (pairs_of r) ≡ true
  unfolding good_record
  record_operands = both_right (not (same (name_of e (opcode_of r)) (text "<invalid>"))) _ g

-- all instructions
module _ (e : Context) (places r : List ℕ) (rs : List (List ℕ)) (g : good_records e places (r ∷ rs) ≡ true) where
  pub records_first : good_record e places r ≡ true
  unfolding good_records
  records_first = both_left (good_record e places r) _ g

  pub records_rest : good_records e places rs ≡ true
  unfolding good_records
  records_rest = both_right (good_record e places r) _ g

-- a place is at most the body's length
pub places_most : (types : List (List ℕ)) (last : ℕ) (s : List ℕ) {at : ℕ} {rs : List (List ℕ)} → Decoding types last s at rs
    → all (λ x. leb x (length s)) (places_of rs (length s)) ≡ true
unfolding all places_of
places_most types last s (ended h) = rw (le-leb (length s) (length s) (omega arith))
places_most types last s {at} (more h l k d) = both_yes (leb at (length s)) _ (le-leb at (length s) (omega arith)) (places_most types last s d)

-- what holds of all places holds of one among them
pub among_all : (p : ℕ → Bool) (x : ℕ) (ys : List ℕ) → among x ys ≡ true → all p ys ≡ true → p x ≡ true
unfolding among all
among_all p x [] e f = true_not_false false e refl
among_all p x (y ∷ ys) e f =
    either_cases (eqb x y) (among x ys) e (λ h. rw (eqb-true x y h) (both_left (p y) (all p ys) f)) (λ h. among_all p x ys h (both_right (p y) (all p ys) f))
