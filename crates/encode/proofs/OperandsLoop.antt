-- The loop over a record's operands. Assumes nothing.
use mathlib.Core.Path.{◌≡◌, refl, ap, sym, ◌∙◌}
use mathlib.Core.List.{List, [], ◌∷◌, ◌++◌, append_assoc, append-nil}
use Prim.Native.Nat.{ℕ, ◌+◌, ◌*◌, ◌≤◌, ◌<◌}
use native.Mathlib.Numerals.{add-one}
use native.Mathlib.Omega.{arith}
use lib.ListN.{length, drop, get_or, drop_of_length-le}
use lib.Seq.{drop-cons}
use borrow.Author.Tests.{ne_eqb}
use Rattle.lists.specs.Write.{Put, top}
use Rattle.lists.proofs.Writes.{◌then◌, wrote_none}
use Rattle.spec_numbers.specs.LittleEndian.{le_bytes}
use Rattle.answers.specs.declared.refusal.Refusal.TheVariants.{BadOperand}
use Rattle.answers.specs.declared.refusal.OperandFault.TheVariants.{Misfit}
use Rattle.spec_body.specs.Encode.Fitted.{fits, no_fit}
use Rattle.spec_sheet.specs.Types.{width_of}
use Rattle.spec_body.specs.Encode.{Operands, encode_operand, encode_operands, operand_bytes, prepend_bytes}
use Rattle.spec_body.specs.Encode.Operands.{bytes, misfit}
use Rattle.encode.specs.RecordPlaces.{pairs_at}
use Rattle.encode.specs.OperandsWritten.{Operanded}
use Rattle.encode.specs.OperandsWritten.Operanded.{whole, misfits}
use Rattle.std.specs.Prelude.{Ok, Err}
use Rattle.encode.proofs.ShapeLaws.{pair_word, next_pairs}

prepend_none : (x : Operands) → prepend_bytes [] x ≡ x
unfolding prepend_bytes
prepend_none (bytes bs) = refl
prepend_none (misfit n) = refl

prepend_twice : (a b : List ℕ) (x : Operands) → prepend_bytes a (prepend_bytes b x) ≡ prepend_bytes (a ++ b) x
unfolding prepend_bytes
prepend_twice a b (bytes bs) = ap bytes (sym (append_assoc a b bs))
prepend_twice a b (misfit n) = refl

-- the ways of one operand
module _ (c : ℕ) (cs ws : List ℕ) (n : ℕ) where
  no_code : c ≡ 0 → encode_operands (c ∷ cs) ws n ≡ bytes []
  unfolding encode_operands
  no_code e = rw (e, encode_operands)

  fitting : (v : ℕ) → (c ≡ 0 → ⊥) → encode_operand c (get_or ws 0 0) (get_or ws 1 0) ≡ fits v → encode_operands (c ∷ cs) ws n ≡ prepend_bytes (le_bytes (width_of c) v) (encode_operands cs (drop 2 ws) (n + 1))
  unfolding encode_operands operand_bytes
  fitting v e f = rw (encode_operands, ne_eqb c 0 e, f)

  unfit : (c ≡ 0 → ⊥) → encode_operand c (get_or ws 0 0) (get_or ws 1 0) ≡ no_fit → encode_operands (c ∷ cs) ws n ≡ misfit n
  unfolding encode_operands operand_bytes
  unfit e f = rw (encode_operands, ne_eqb c 0 e, f)

-- i operands were written, and those behind them complete the record
pub record Going (row words : List ℕ) (at : ℕ) (out₀ : List ℕ) («from» : ℕ) (out : List ℕ) (k i : ℕ) : Type 0 where
  pub seen : List ℕ
  pub few : i ≤ 8
  pub wrote : Put out₀ «from» seen out k
  pub left : encode_operands row (pairs_at words at) 1 ≡ prepend_bytes seen (encode_operands (drop i row) (drop (2 * i) (pairs_at words at)) (i + 1))

pub start : (row words : List ℕ) (at : ℕ) (out : List ℕ) («from» : ℕ) → length out ≤ top → «from» ≤ top → Going row words at out «from» out «from» 0
start row words at out «from» h l = record { seen = []; few = omega arith; wrote = wrote_none h l; left = sym (prepend_none _) }

module _ (index : ℕ) (row words : List ℕ) (at : ℕ) (out₀ : List ℕ) («from» : ℕ) (out : List ℕ) (k i : ℕ) (g : Going row words at out₀ «from» out k i) where
  -- no operand is left
  done : encode_operands (drop i row) (drop (2 * i) (pairs_at words at)) (i + 1) ≡ bytes [] → Operanded (encode_operands row (pairs_at words at) 1) index out₀ «from» out (Ok k)
  unfolding prepend_bytes
  done e = whole g.seen k (g.left ∙ (rw e (ap bytes (append-nil g.seen)))) refl g.wrote

  pub ended : length row ≤ i → Operanded (encode_operands row (pairs_at words at) 1) index out₀ «from» out (Ok k)
  unfolding encode_operands
  ended h = done (rw (drop_of_length-le row h))

  module _ (h : i < length row) (l : i < 8) where
    here : drop i row ≡ get_or row i 0 ∷ drop (i + 1) row
    here = rw (add-one i) (drop-cons row i 0 h)

    pub stops : get_or row i 0 ≡ 0 → Operanded (encode_operands row (pairs_at words at) 1) index out₀ «from» out (Ok k)
    stops e = done (rw here (no_code (get_or row i 0) (drop (i + 1) row) _ _ e))

    module _ (e : get_or row i 0 ≡ 0 → ⊥) (p : ℕ) (q : p ≡ at + 4 + 2 * i) where
      operand : encode_operand (get_or row i 0) (get_or (drop (2 * i) (pairs_at words at)) 0 0) (get_or (drop (2 * i) (pairs_at words at)) 1 0) ≡ encode_operand (get_or row i 0) (get_or words p 0) (get_or words (p + 1) 0)
      operand =
          let z : p + 0 ≡ p = omega arith in
          let w : get_or (drop (2 * i) (pairs_at words at)) 0 0 ≡ get_or words p 0 = pair_word words at i p q l 0 (omega arith) ∙ ap (λ (n : ℕ). get_or words n 0) z in
          rw (w, pair_word words at i p q l 1 (omega arith))

      pub refuses : (out' : List ℕ) → encode_operand (get_or row i 0) (get_or words p 0) (get_or words (p + 1) 0) ≡ no_fit → Operanded (encode_operands row (pairs_at words at) 1) index out₀ «from» out' (Err (BadOperand Misfit index (i + 1)))
      unfolding prepend_bytes
      refuses out' f = misfits (i + 1) (g.left ∙ (rw (here, unfit (get_or row i 0) (drop (i + 1) row) (drop (2 * i) (pairs_at words at)) (i + 1) e (operand ∙ f)))) refl

      pub turn : (v w : ℕ) (out' : List ℕ) (k' : ℕ) → encode_operand (get_or row i 0) (get_or words p 0) (get_or words (p + 1) 0) ≡ fits v → w ≡ width_of (get_or row i 0) → Put out k (le_bytes w v) out' k'
          → Going row words at out₀ «from» out' k' (i + 1)
      turn v w out' k' f d t =
          let bs = le_bytes (width_of (get_or row i 0)) v in
          record {
            seen = g.seen ++ bs;
            few = omega arith;
            wrote = g.wrote then (rw d at t);
            left = g.left ∙ (rw (here, fitting (get_or row i 0) (drop (i + 1) row) (drop (2 * i) (pairs_at words at)) (i + 1) v e (operand ∙ f), next_pairs i (pairs_at words at)) (prepend_twice g.seen bs _));
          }
