-- The loop over the operands of an instruction. Assumes nothing.
use mathlib.Core.Path.{◌≡◌, refl, ap, sym, ◌∙◌}
use mathlib.Core.List.{List, [], ◌∷◌, ◌++◌, append_assoc, append-nil}
use Prim.Native.Nat.{ℕ, suc, ◌+◌, ◌-◌, ◌≤◌, ◌<◌, min}
use native.Mathlib.Numerals.{add-one}
use native.Mathlib.Omega.{arith}
use lib.ListN.{length, drop, get_or, drop_of_length-le}
use lib.Seq.{drop-cons}
use borrow.Author.Tests.{eq-eqb, ne_eqb}
use Rattle.lists.specs.Found as search
use Rattle.lists.specs.Scan.{part}
use Rattle.lists.specs.Write.{Put, top}
use Rattle.lists.proofs.Writes.{◌then◌, same_piece, wrote_none}
use Rattle.answers.specs.declared.refusal.OperandFault.{OperandFault}
use Rattle.spec_numbers.specs.LittleEndian.{le_bytes}
use Rattle.spec_sheet.specs.Types.{width_of}
use Rattle.spec_inputs.specs.Context.{Context}
use Rattle.spec_hasm.specs.Text.{trim}
use Rattle.spec_hasm.specs.Split.{split_outside, tokens}
use Rattle.spec_hasm.specs.Token.{token_value}
use Rattle.spec_hasm.specs.Token.Value.{value, refused}
use Rattle.spec_hasm.specs.Assemble as definition
use Rattle.spec_hasm.specs.Assemble.{prepend, on_value, operands_from}
use Rattle.spec_hasm.specs.Assemble.Operands.{written, refused_operand}
use Rattle.hasm_read.specs.Commas.{comma_at}
use Rattle.hasm_tokens.specs.Values.{token_answer}
use Rattle.std.proofs.Common.{Result, Ok, Err}
use Rattle.assemble.specs.OperandPuts.{AllPut}
use Rattle.assemble.proofs.ValueLaws.{value_bits, value_refused}
use Rattle.assemble.proofs.TokenPlaces.{token_here, tokens_behind}

-- bytes in front: none, and some behind others
prepend_none : (x : definition.Operands) → prepend [] x ≡ x
unfolding prepend
prepend_none (written bs) = refl
prepend_none (refused_operand f operand) = refl

prepend_two : (front bs : List ℕ) (x : definition.Operands) → prepend front (prepend bs x) ≡ prepend (front ++ bs) x
unfolding prepend
prepend_two front bs (written cs) = ap written (sym (append_assoc front bs cs))
prepend_two front bs (refused_operand f operand) = refl

prepend_end : (front : List ℕ) → prepend front (written []) ≡ written front
unfolding prepend
prepend_end front = ap written (append-nil front)

prepend_refused : (front : List ℕ) (f : OperandFault) (operand : ℕ) → prepend front (refused_operand f operand) ≡ refused_operand f operand
unfolding prepend
prepend_refused front f operand = refl

-- one operand first: a value, a refusal, or none
module _ (e : Context) (labels : List ℕ → search.Found) (at n code : ℕ) (codes : List ℕ) (ts : List (List ℕ)) where
  first_bits : (bits : ℕ) → (code ≡ 0 → ⊥) → token_value e.bytes e.ends labels at code (get_or ts 0 []) ≡ value bits
      → operands_from e labels at n (code ∷ codes) ts ≡ prepend (le_bytes (width_of code) bits) (operands_from e labels at (suc n) codes (drop 1 ts))
  unfolding operands_from on_value
  first_bits bits z v = rw (ne_eqb code 0 z, v, operands_from)

  first_refused : (f : OperandFault) → (code ≡ 0 → ⊥) → token_value e.bytes e.ends labels at code (get_or ts 0 []) ≡ refused f
      → operands_from e labels at n (code ∷ codes) ts ≡ refused_operand f n
  unfolding operands_from on_value
  first_refused f z v = rw (ne_eqb code 0 z, v, operands_from)

  first_none : code ≡ 0 → operands_from e labels at n (code ∷ codes) ts ≡ written []
  unfolding operands_from
  first_none z = rw (eq-eqb code 0 z, operands_from)

-- all operands that stand in s
abbrev all_in : Context → (List ℕ → search.Found) → ℕ → List ℕ → List ℕ → definition.Operands
all_in e labels offset s row = operands_from e labels offset 1 row (tokens (split_outside s))

-- operands up to i are written, and the text of the next starts at p
pub record Going (e : Context) (labels : List ℕ → search.Found) (offset : ℕ) (s row out₀ : List ℕ) (k : ℕ) (out : List ℕ) (n p i : ℕ) : Type 0 where
  pub eight : length row ≡ 8
  pub few : i ≤ 8
  pub place : p ≤ length s
  pub bytes : List ℕ
  pub so_far : Put out₀ k bytes out n
  pub rest : all_in e labels offset s row ≡ prepend bytes (operands_from e labels offset (suc i) (drop i row) (tokens (split_outside (drop p s))))

module _ {e : Context} {labels : List ℕ → search.Found} {offset : ℕ} {s row out₀ : List ℕ} {k : ℕ} where
  pub start : length row ≡ 8 → length out₀ ≤ top → k ≤ top → Going e labels offset s row out₀ k out₀ k 0 0
  start q h l = record {
    eight = q;
    few = omega arith;
    place = omega arith;
    bytes = [];
    so_far = wrote_none h l;
    rest = sym (prepend_none (all_in e labels offset s row));
  }

  module _ {out : List ℕ} {n p i : ℕ} (g : Going e labels offset s row out₀ k out n p i) where
    -- a code 0 ends the row, and so do eight
    pub at_zero : (code : ℕ) → i < 8 → code ≡ get_or row i 0 → code ≡ 0 → AllPut (all_in e labels offset s row) out₀ k out n
    at_zero code h c z =
        let r : i < length row = omega (arith, g.eight) in
        let d : operands_from e labels offset (suc i) (drop i row) (tokens (split_outside (drop p s))) ≡ written [] =
        rw (drop-cons row i 0 r) (first_none e labels offset (suc i) (get_or row i 0) (drop (suc i) row) _ (sym c ∙ z)) in
        record { bytes = g.bytes; whole = g.rest ∙ ap (prepend g.bytes) d ∙ prepend_end g.bytes; put = g.so_far }

    pub at_end : 8 ≤ i → AllPut (all_in e labels offset s row) out₀ k out n
    unfolding operands_from
    at_end h =
        let r : length row ≤ i = omega (arith, g.eight) in
        let d : operands_from e labels offset (suc i) (drop i row) (tokens (split_outside (drop p s))) ≡ written [] = rw (drop_of_length-le row r) in
        record { bytes = g.bytes; whole = g.rest ∙ ap (prepend g.bytes) d ∙ prepend_end g.bytes; put = g.so_far }

    -- the operand i, whose text ends at `end`
    module _ (code end : ℕ) (t : List ℕ) (v : Result ℕ OperandFault) (h : i < 8) (c : code ≡ get_or row i 0) (z : code ≡ 0 → ⊥)
        (w : end ≡ p + comma_at (drop p s)) (b : end ≤ length s) (f : t ≡ trim (part s p (end - p)))
        (q : v ≡ token_answer (token_value e.bytes e.ends labels offset code t)) where
      value_here : v ≡ token_answer (token_value e.bytes e.ends labels offset (get_or row i 0) (get_or (tokens (split_outside (drop p s))) 0 []))
      value_here = rw (token_here s p end (min (end + 1) (length s)) w b refl, sym f, sym c) q

      pub turn : (bits next width : ℕ) {o₁ : List ℕ} {n₁ : ℕ} → v ≡ Ok bits → next ≡ min (end + 1) (length s) → width ≡ width_of code → Put out n (le_bytes width bits) o₁ n₁
          → Going e labels offset s row out₀ k o₁ n₁ next (i + 1)
      turn bits next width m j a u =
          let r : i < length row = omega (arith, g.eight) in
          let ts = tokens (split_outside (drop p s)) in
          let x = value_bits _ bits (sym value_here ∙ m) in
          let d : operands_from e labels offset (suc i) (drop i row) ts
          ≡ prepend (le_bytes (width_of code) bits) (operands_from e labels offset (suc (i + 1)) (drop (i + 1) row) (tokens (split_outside (drop next s)))) =
          rw (sym (tokens_behind s p end next w b j), add-one i, c, drop-cons row i 0 r)
          (first_bits e labels offset (suc i) (get_or row i 0) (drop (suc i) row) ts bits (λ y. z (c ∙ y)) x) in
          record {
            eight = g.eight;
            few = omega arith;
            place = omega (arith, j);
            bytes = g.bytes ++ le_bytes (width_of code) bits;
            so_far = g.so_far then same_piece (ap (λ (x : ℕ). le_bytes x bits) a) u;
            rest = g.rest ∙ ap (prepend g.bytes) d ∙ prepend_two g.bytes (le_bytes (width_of code) bits) _;
          }

      pub refuses : (f' : OperandFault) (operand : ℕ) → v ≡ Err f' → operand ≡ i + 1 → all_in e labels offset s row ≡ refused_operand f' operand
      refuses f' operand m j =
          let r : i < length row = omega (arith, g.eight) in
          let ts = tokens (split_outside (drop p s)) in
          let x = value_refused _ f' (sym value_here ∙ m) in
          let d : operands_from e labels offset (suc i) (drop i row) ts ≡ refused_operand f' operand =
          rw (j, add-one i, drop-cons row i 0 r) (first_refused e labels offset (suc i) (get_or row i 0) (drop (suc i) row) ts f' (λ y. z (c ∙ y)) x) in
          g.rest ∙ ap (prepend g.bytes) d ∙ prepend_refused g.bytes f' operand
