-- Instructions that keep their bytes but for the opcode. Assumes nothing.
use mathlib.Core.Path.{◌≡◌, refl, ap, sym, ◌∙◌}
use mathlib.Core.Bool.{Bool, true, false}
use Rattle.std.specs.Prelude.{◌&&◌, None, Ok, zip}
use Rattle.std.specs.List.{list_all}
use mathlib.Core.List.{List, [], ◌∷◌, ◌++◌, append_assoc}
use Prim.Native.Nat.{ℕ, suc, ◌+◌, ◌-◌, ◌*◌, ◌/◌, ◌%◌, ◌≤◌, ◌<◌, min}
use native.Mathlib.Numerals.{add-one}
use native.Mathlib.Omega.{arith}
use lib.Dec.{eqb, leb}
use lib.ListN.{length, drop, get_or, length-append, drop_of_length-le}
use lib.Seq.{drop-cons, drop-drop, drop_at, get_or-drop}
use borrow.Author.Tests.{eqb-true}
use Rattle.lists.specs.Choice.{both}
use Rattle.lists.specs.Scan.{Bytes, part}
use Rattle.lists.specs.Write.{put, Put, ByWords, top}
use Rattle.lists.proofs.Links.{both_and}
use Rattle.lists.proofs.Tests.{both_left, both_right}
use Rattle.lists.proofs.Parts.{part_length, part_add, bytes_drop, bytes_take}
use Rattle.lists.proofs.Writes.{◌then◌, put_length}
use Rattle.lists.proofs.Aheads.{as_words, same_ahead}
use Rattle.spec_numbers.specs.LittleEndian.{le, le_bytes}
use Rattle.spec_numbers.proofs.ByteLaws.{le_bytes_le, le_bytes_step}
use Rattle.numbers.proofs.WordLaws.{front_bytes}
use Rattle.spec_sheet.specs.Types.{width_of}
use Rattle.spec_sheet.specs.Row.{sum_by, length_of, total_width}
use Rattle.spec_body.specs.Record.{pairs}
use Rattle.spec_body.proofs.ReencodeLaws.{part_below}
use Rattle.spec_carry.specs.Passes.{Carrying, operand_cases, operands_cases, far_cases, new_bits, new_operands}
use Rattle.spec_carry.proofs.CaseLaws.{Passed, unless_passed}
use Rattle.spec_carry.proofs.CaseLaws.Passed.{none, one}
use Rattle.carry.specs.Plans.{keeps_type, keeps_all, copied}
use Rattle.carry.specs.Carried.{InstructionCarried}
use Rattle.carry.specs.Carried.OperandsCarried.{all_near}
use Rattle.carry.proofs.RowLaws.{passed_both}
use Rattle.carry.proofs.PlanLaws.{when_kept}
use Rattle.carry.proofs.WriteLaws.{none_holds}
use Rattle.carry.proofs.CarriedLaws.{kept_passes, kept_near, kept_bits}

-- types beside each other are all kept where each two are
pub kept_beside : (row new : List ℕ) → length row ≡ length new → keeps_all row new ≡ list_all (λ p. keeps_type p.0 p.1) (zip row new)
unfolding keeps_all
kept_beside [] new l = refl
kept_beside (c ∷ cs) [] l = absurd (omega arith)
kept_beside (c ∷ cs) (d ∷ ds) l = both_and (keeps_type c d) _ ∙ ap (λ (b : Bool). keeps_type c d && b) (kept_beside cs ds (omega arith))

-- those in front of j are kept
module _ (row new : List ℕ) (j : ℕ) (g : keeps_all row new ≡ keeps_all (drop j row) (drop j new)) where
  type_here : j < length row → keeps_all (drop j row) (drop j new) ≡ both (keeps_type (get_or row j 0) (get_or new j 0)) (keeps_all (drop (j + 1) row) (drop (j + 1) new))
  unfolding keeps_all
  type_here h =
      let z : j + 0 ≡ j = omega arith in
      let e : get_or (drop j new) 0 0 ≡ get_or new j 0 = get_or-drop j new 0 0 ∙ ap (λ (n : ℕ). get_or new n 0) z in
      rw (drop-cons row j 0 h, e, drop-drop 1 j new, add-one j)

  pub type_changed : j < length row → keeps_type (get_or row j 0) (get_or new j 0) ≡ false → keeps_all row new ≡ false
  type_changed h e = g ∙ (type_here h ∙ rw e)

  pub type_kept : j < length row → keeps_type (get_or row j 0) (get_or new j 0) ≡ true → keeps_all row new ≡ keeps_all (drop (j + 1) row) (drop (j + 1) new)
  type_kept h e = g ∙ (type_here h ∙ rw e)

  pub types_kept : length row ≤ j → keeps_all row new ≡ true
  unfolding keeps_all
  types_kept h = g ∙ rw (drop_of_length-le row h)

-- a word whose lowest byte is another
pub word_bytes : (s : List ℕ) (at n op : ℕ) → Bytes s → at + 8 ≤ length s → 1 ≤ n → n ≤ 8 → op < 256 → le_bytes n (le (part s at 8) / 256 * 256 + op) ≡ op ∷ part s (at + 1) (n - 1)
word_bytes s at n op b h l m k =
    let v = le (part s at 8) in
    let w : (v / 256 * 256 + op) % 256 ≡ op = omega arith in
    let u : (v / 256 * 256 + op) / 256 ≡ v / 256 = omega arith in
    let z : 1 + (n - 1) ≡ n = omega arith in
    let front : le_bytes n v ≡ part s at 1 ++ part s (at + 1) (n - 1) = front_bytes s at n b h m ∙ (ap (part s at) (sym z) ∙ part_add s at 1 (n - 1)) in
    let rest : le_bytes (n - 1) (v / 256) ≡ part s (at + 1) (n - 1) =
    ap (drop 1) (sym (le_bytes_step n v (omega arith)) ∙ front) ∙ drop_at (part s at 1) (part s (at + 1) (n - 1)) 1 (part_length s at 1 (omega arith)) in
    le_bytes_step n (v / 256 * 256 + op) (omega arith) ∙ rw (w, u, rest)

-- the second of two pieces that were written as one
second_piece : (s t : List ℕ) {out o : List ℕ} {at r : ℕ} → ByWords out at (s ++ t) o r → ByWords (put out at s) (min (at + length s) top) t o r
second_piece s t {out} {o} {at} {r} w =
    let k = min (at + length s) top in
    let m = t ++ w.behind in
    let p : Put out at s (put out at s) k = record { small = w.small; next = refl; bytes = refl } in
    let q : Put (put out at s) k m (put (put out at s) k m) (min (k + length m) top) = record { small = omega (arith, w.small, put_length out at s); next = refl; bytes = refl } in
    record {
      small = omega (arith, w.small, put_length out at s);
      next = omega (arith, w.next, length-append s t);
      behind = w.behind;
      few = w.few;
      bytes = w.bytes ∙ (ap (put out at) (append_assoc s t w.behind) ∙ sym (p then q).bytes);
    }

-- operands that are all kept: none is refused or too far, and they are the bytes of the body
module _ (x : Carrying) (i at new : ℕ) (s : List ℕ) (b : Bytes s) where
  record Kept (cs ds : List ℕ) (p q : ℕ) : Type 0 where
    passed : Passed (operands_cases x i at q cs ds (pairs cs s p))
    near : Passed (far_cases x i at q cs ds (pairs cs s p))
    bytes : new_operands x at new cs ds (pairs cs s p) ≡ part s p (total_width cs)

  all_kept : (cs ds : List ℕ) (p q : ℕ) → keeps_all cs ds ≡ true → length cs ≡ length ds → p + total_width cs ≤ length s → Kept cs ds p q
  unfolding keeps_all operands_cases far_cases new_operands pairs sum_by
  all_kept [] [] p q k l h = record { passed = none; near = none; bytes = refl }
  all_kept [] (d ∷ ds) p q k l h = absurd (omega arith)
  all_kept (c ∷ cs) [] p q k l h = absurd (omega arith)
  all_kept (c ∷ cs) (d ∷ ds) p q k l h =
      let w = width_of c in
      let bits = le (part s p w) in
      let t = both_left (keeps_type c d) _ k in
      let e : c ≡ d = eqb-true c d (both_left (eqb c d) _ t) in
      let f = when_kept c d (both_right (eqb c d) _ t) in
      let rest = all_kept cs ds (p + w) (suc q) (both_right (keeps_type c d) _ k) (omega arith) (omega arith) in
      let own : le_bytes (width_of d) (new_bits x at new c d bits) ≡ part s p w =
      rw (kept_bits x i at q c d bits f.0 f.1 f.2 new, sym e) (rw (part_length s p w (omega arith)) at (le_bytes_le (part s p w) (bytes_take (drop p s) w (bytes_drop s p b)))) in
      record {
        passed = passed_both (operand_cases x i at q c d bits) _ (none_holds _ (kept_passes x i at q c d bits f.0 f.1 f.2 f.3 (part_below s p w b))) rest.passed;
        near = one (kept_near x i at q c d bits f.0 f.1 f.2) rest.near;
        bytes = rw (own, rest.bytes) (sym (part_add s p w (total_width cs)));
      }

  -- a whole instruction that was copied
  pub instruction_copied : (op : ℕ) (row row' block : List ℕ) (k : ℕ) (block' : List ℕ) (k' : ℕ) → copied row row' ≡ true → length row ≡ length row' → at + length_of row ≤ length s
      → ByWords block k (op ∷ part s (at + 1) (total_width row)) block' k' → InstructionCarried x i at new op row row' (pairs row s (at + 1)) block k block' (Ok (record { next = k'; far = None }))
  instruction_copied op row row' block k block' k' c l h w =
      let kept = all_kept row row' (at + 1) 1 (both_right (leb (length_of row) 8) _ c) l (omega arith) in
      record {
        block₁ = put block k (op ∷ []);
        b = min (k + 1) top;
        opcode_put = as_words (record { small = w.small; next = refl; bytes = refl });
        operands = all_near k' refl (λ cs rest. unless_passed _ cs rest kept.passed) (λ cs rest. unless_passed _ cs rest kept.near) (same_ahead (sym kept.bytes) (second_piece (op ∷ []) (part s (at + 1) (total_width row)) w));
      }
