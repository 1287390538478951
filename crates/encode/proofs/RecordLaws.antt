-- One record, case by case. Assumes nothing.
use mathlib.Core.Path.{◌≡◌, refl, ◌∙◌}
use mathlib.Core.Bool.{true, false}
use mathlib.Core.List.{List, [], ◌∷◌}
use Prim.Native.Nat.{ℕ, ◌+◌, ◌≤◌, ◌<◌}
use native.Mathlib.Omega.{arith}
use lib.ListN.{length, get_or}
use borrow.Author.Tests.{leb-true}
use Rattle.lists.specs.Write.{Put}
use Rattle.lists.proofs.Writes.{◌then◌}
use Rattle.lists.proofs.Tests.{both_left}
use Rattle.lists.proofs.Parts.{part_at, part_length}
use Rattle.answers.specs.declared.refusal.Refusal.TheVariants.{BadOperand, Beyond, OperandCount, BadRecord}
use Rattle.answers.specs.declared.refusal.OperandFault.TheVariants.{Misfit}
use Rattle.spec_sheet.specs.Row.{count_of}
use Rattle.spec_body.specs.Encode.{Encoded, good_shape, encode_operands, with_operands, encode_record}
use Rattle.spec_body.proofs.EncodeLaws.{record_bad, record_beyond, record_miscounted, record_counted}
use Rattle.encode.specs.RecordPlaces.{record_at, pairs_at, CanonicalPut}
use Rattle.encode.specs.Written.{Turn}
use Rattle.encode.specs.OperandsWritten.{Operanded}
use Rattle.encode.specs.Canonical.{canonical_record}
use Rattle.encode.specs.OperandsWritten.Operanded.{whole, misfits}
use Rattle.encode.specs.Written.Turn.{went, stopped}
use Rattle.lists.proofs.Aheads.{not_ahead, more_ahead}
use Rattle.encode.proofs.CanonicalRecords.{canonical_encoded}
use Rattle.std.specs.Prelude.{Result, Ok, Err}
use Rattle.answers.specs.declared.refusal.Refusal.{Refusal}

module _ (types : List (List ℕ)) (last i at : ℕ) (words out out' : List ℕ) («from» : ℕ) where
  abbrev this : Result ℕ Refusal → Type 0
  this r = Turn (encode_record types last i (record_at words at)) out «from» 0 out' r

  pub shape_bad : good_shape (record_at words at) ≡ false → this (Err (BadRecord i))
  shape_bad e = stopped (BadRecord i) (λ rest. record_bad types last i (record_at words at) rest e) refl

  module _ (e : good_shape (record_at words at) ≡ true) where
    opcode_at : get_or (record_at words at) 1 0 ≡ get_or words (at + 1) 0
    opcode_at = part_at words at 20 1 0 (omega arith)

    pub opcode_beyond : last < get_or words (at + 1) 0 → this (Err (Beyond i))
    opcode_beyond h = stopped (Beyond i) (λ rest. record_beyond types last i (record_at words at) rest e (rw opcode_at h)) refl

    module _ (h : get_or words (at + 1) 0 ≤ last) where
      count_at : get_or (record_at words at) 3 0 ≡ get_or words (at + 3) 0
      count_at = part_at words at 20 3 0 (omega arith)

      abbrev row : List ℕ
      row = get_or types (get_or words (at + 1) 0) []

      pub count_other : (get_or words (at + 3) 0 ≡ count_of row → ⊥) → this (Err (OperandCount i))
      count_other f = stopped (OperandCount i) (λ rest. record_miscounted types last i (record_at words at) rest e (rw opcode_at h) (rw (opcode_at, count_at) f)) refl

      module _ (f : get_or words (at + 3) 0 ≡ count_of row) where
        counted : (rest : Encoded) → encode_record types last i (record_at words at) rest ≡ with_operands (get_or words (at + 1) 0) i (encode_operands row (pairs_at words at) 1) rest
        counted rest = rw opcode_at at (record_counted types last i (record_at words at) rest e (rw opcode_at h) (rw (opcode_at, count_at) f))

        -- its operands decide
        pub operands_written : (o : List ℕ) (k : ℕ) → Put out «from» (get_or words (at + 1) 0 ∷ []) o k → (w : Result ℕ Refusal) → Operanded (encode_operands row (pairs_at words at) 1) i o k out' w → this w
        unfolding with_operands
        operands_written o k p w (whole bs n x y t) = went (get_or words (at + 1) 0) bs n (λ rest. counted rest ∙ rw x) y (not_ahead (p then t))
        operands_written o k p w (misfits q x y) = stopped (BadOperand Misfit i q) (λ rest. counted rest ∙ rw x) y

-- more bytes may be written ahead than are
pub turn_more : {x : Encoded → Encoded} {out out' : List ℕ} {at spare : ℕ} {r : Result ℕ Refusal} → Turn x out at 0 out' r → Turn x out at spare out' r
turn_more (went b bs k e q p) = went b bs k e q (more_ahead (omega arith) p)
turn_more (stopped f e q) = stopped f e q

-- a canonical record
pub canonical_known : (types : List (List ℕ)) (last at : ℕ) (words : List ℕ) → canonical_record types last (record_at words at) ≡ true → get_or words (at + 1) 0 ≤ last
unfolding canonical_record
canonical_known types last at words e = rw (part_at words at 20 1 0 (omega arith)) at (leb-true (get_or (record_at words at) 1 0) last (both_left _ _ e))

pub turn_canonical : (types : List (List ℕ)) (last i at : ℕ) (words out out' : List ℕ) («from» spare k : ℕ) → canonical_record types last (record_at words at) ≡ true
    → at + 20 ≤ length words → 8 ≤ spare → CanonicalPut types words at out «from» out' k → Turn (encode_record types last i (record_at words at)) out «from» spare out' (Ok k)
turn_canonical types last i at words out out' «from» spare k e l m (p, h) =
    let o = part_at words at 20 1 0 (omega arith) in
    went _ _ k (λ rest. (rw o at (canonical_encoded types last i (record_at words at) rest e (rw o h) (part_length words at 20 l)))) refl (more_ahead m p)
