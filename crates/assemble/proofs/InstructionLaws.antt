-- One instruction of a text, written. Assumes nothing.
use mathlib.Core.Path.{◌≡◌, refl, ap, sym, ◌∙◌}
use Rattle.std.proofs.Common.{Option, Some, None}
use mathlib.Core.List.{List, [], ◌∷◌}
use Prim.Native.Nat.{ℕ, ◌+◌, ◌-◌, ◌<◌, ◌≤◌}
use native.Mathlib.Omega.{arith}
use lib.ListN.{length, take, drop}
use lib.Seq.{drop-drop}
use Rattle.lists.specs.Found.{Found}
use Rattle.lists.specs.Found.Found.{found, missing}
use Rattle.lists.specs.Scan.{run}
use Rattle.lists.specs.Write.{Put}
use Rattle.lists.proofs.Writes.{◌then◌}
use Rattle.lists.proofs.Parts.{tail_part}
use Rattle.std.specs.Option.{unwrap_or}
use Rattle.slices.specs.Answers.{found_of}
use Rattle.spec_sheet.specs.Sheet.{find_name}
use Rattle.spec_sheet.specs.Row.{length_of}
use Rattle.spec_inputs.specs.Context.{Context}
use Rattle.spec_hasm.specs.Text.{is_white, is_solid}
use Rattle.spec_hasm.specs.Split.{split_outside, tokens, instruction_name, instruction_operands}
use Rattle.spec_hasm.specs.Line.{opcode_named}
use Rattle.spec_hasm.specs.Assemble.{row_of, found_in, operands_from}
use Rattle.spec_hasm.specs.Assemble.Operands.{refused_operand}
use Rattle.answers.specs.declared.refusal.OperandFault.{OperandFault}
use Rattle.hasm_labels.proofs.NameLaws.{found_inside}
use Rattle.assemble.specs.OperandPuts.{AllPut}
use Rattle.assemble.specs.BodyPuts.{opcode_in, operands_of, WholePut}
use Rattle.assemble.specs.declared.operands.Place.{Place}

-- the opcode of what a search answered
found_or_none : (x : Found) → unwrap_or (found_of x) 0 ≡ found_in x
unfolding found_in
found_or_none (found k) = refl
found_or_none missing = refl

pub found_opcode : (k : ℕ) (x : Found) → Some k ≡ found_of x → k ≡ found_in x
found_opcode k x e = ap (λ (p : Option ℕ). unwrap_or p 0) e ∙ found_or_none x

pub missing_opcode : (x : Found) → None ≡ found_of x → 0 ≡ found_in x
missing_opcode x e = ap (λ (p : Option ℕ). unwrap_or p 0) e ∙ found_or_none x

pub opcode_found : (x : Found) (o : Option ℕ) (k : ℕ) → o ≡ found_of x → k ≡ unwrap_or o 0 → k ≡ found_in x
opcode_found x o k e f = f ∙ ap (λ (p : Option ℕ). unwrap_or p 0) e ∙ found_or_none x

-- it is one of the rows
pub opcode_below : (s name : List ℕ) (rows : List (List ℕ)) → length rows ≡ 256 → found_in (find_name s name 0 rows) < 256
unfolding found_in
opcode_below s name rows h = go (find_name s name 0 rows) (found_inside s name 0 rows)
  where
    go : (x : Found) → ((o : ℕ) → x ≡ found o → o < 0 + length rows) → found_in x < 256
    go (found o) f = omega (arith, f o refl)
    go missing f = omega arith

pub opcode_small : (s name : List ℕ) (rows : List (List ℕ)) (o : Option ℕ) (k : ℕ) → length rows ≡ 256 → o ≡ found_of (find_name s name 0 rows) → k ≡ unwrap_or o 0 → k < 256
opcode_small s name rows o k h e f = omega (arith, opcode_found (find_name s name 0 rows) o k e f, opcode_below s name rows h)

-- the instruction s, whose name ends at n and whose operands start at a
module _ (e : Context) (labels : List ℕ → Found) (s : List ℕ) (place : Place) (n a : ℕ) (p : n ≡ 0 + run is_solid s) (q : a ≡ n + run is_white (drop n s)) where
  operands_here : instruction_operands s ≡ tokens (split_outside (take (length s - a) (drop a s)))
  unfolding instruction_operands
  operands_here =
      let z : run is_solid s ≡ n = omega (arith, p) in
      rw (z, drop-drop (run is_white (drop n s)) n s, sym q, tail_part s a) refl

  opcode_is : found_in (opcode_named e (take n s)) ≡ opcode_in e s
  unfolding instruction_name
  opcode_is = let z : run is_solid s ≡ n = omega (arith, p) in rw z refl

  module _ (op : ℕ) (i : op ≡ found_in (opcode_named e (take n s))) where
    its : op ≡ opcode_in e s
    its = i ∙ opcode_is

    pub put_whole : {out o₁ out' : List ℕ} {b : ℕ} (next size : ℕ) → size ≡ length_of (row_of e op) → size ≤ 65 → Put out place.k (op ∷ []) o₁ b
        → AllPut (operands_from e labels place.offset 1 (row_of e op) (tokens (split_outside (take (length s - a) (drop a s))))) o₁ b out' next
        → WholePut e labels s place out out' (record { offset = place.offset + size; k = next })
    put_whole next size z l w h = record {
      bytes = h.bytes;
      operands = rw (sym its, operands_here) h.whole;
      put = rw (sym its) (w then h.put);
      offset = rw (z, its) refl;
      near = omega (arith, l);
    }

    pub put_refused : {f : OperandFault} {operand : ℕ}
        → operands_from e labels place.offset 1 (row_of e op) (tokens (split_outside (take (length s - a) (drop a s)))) ≡ refused_operand f operand
        → operands_of e labels s place.offset ≡ refused_operand f operand
    put_refused h = rw (sym its, operands_here) h
