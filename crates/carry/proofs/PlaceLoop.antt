-- The loop that marks the places of a body. Assumes nothing.
use mathlib.Core.Path.{◌≡◌, refl, ap, ◌∙◌}
use mathlib.Core.List.{List, [], ◌∷◌}
use Prim.Native.Nat.{ℕ, suc, ◌+◌, ◌-◌, ◌*◌, ◌≤◌, ◌<◌}
use native.Mathlib.Nat.{sub-zero}
use native.Mathlib.Omega.{arith}
use Rattle.std.specs.Prelude.{Result, Ok, Err}
use lib.ListN.{length, get_or, set, replicate, length-set}
use Rattle.spec_sheet.specs.Row.{length_of}
use Rattle.spec_inputs.specs.Context.{Context}
use Rattle.spec_body.specs.Record.{record_of, offset_of}
use Rattle.spec_body.specs.Decode.{Decoded, prepend, row_at, decode_from, decode_body}
use Rattle.spec_body.specs.Decode.Decoded.{decoded, not_decoded}
use Rattle.spec_body.proofs.DecodeLaws.{prepend_is, at_end, at_beyond, at_cut, at_more}
use Rattle.spec_body.proofs.StartLaws.{chain}
use Rattle.answers.specs.declared.refusal.Refusal.{Refusal}
use Rattle.answers.specs.declared.refusal.Refusal.TheVariants.{Beyond, Cut}
use Rattle.spec_carry.specs.Passes.{new_row}
use Rattle.carry.specs.EmptyRow.{empty}
use Rattle.carry.specs.Opcodes.{OpcodeRows, RowsKnown}
use Rattle.carry.specs.declared.opcodes.OpcodeRow.{OpcodeRow}
use Rattle.carry.specs.Places.{PlacesMarked}
use Rattle.carry.specs.Places.PlacesMarked.{marked, refuses}
use Rattle.carry.proofs.PlaceLaws.{marks_from, marks_mapped}

-- what a walk answers and leaves that has n instructions behind it and goes on over d
pub data Ends (a b : Context) (end : ℕ) (d : Decoded) (map : List ℕ) (new n : ℕ) (map' : List ℕ) (r : Result ℕ Refusal) : Type 0 where
  done : (rs : List (List ℕ)) → d ≡ decoded rs → r ≡ Ok (n + length rs) → map' ≡ marks_from a b map new rs end → Ends a b end d map new n map' r
  stops : (x : Refusal) → d ≡ not_decoded x → r ≡ Err x → Ends a b end d map new n map' r

prepend_not : (q : List ℕ) (d : Decoded) (x : Refusal) → d ≡ not_decoded x → prepend q d ≡ not_decoded x
unfolding prepend
prepend_not q d x e = rw e

-- an instruction more
more_ends : (a b : Context) (end : ℕ) (q : List ℕ) (d : Decoded) (map : List ℕ) (new n : ℕ) (map' : List ℕ) (r : Result ℕ Refusal)
    → Ends a b end d (set map (offset_of q) (new + 1)) (new + length_of (new_row a b q)) (n + 1) map' r → Ends a b end (prepend q d) map new n map' r
unfolding marks_from
more_ends a b end q d map new n map' r (done rs e f m) = done (q ∷ rs) (prepend_is q d rs e) (f ∙ ap Ok (omega arith)) m
more_ends a b end q d map new n map' r (stops x e f) = stops x (prepend_not q d x e) f

-- the lengths of an opcode's row
module _ (a b : Context) (last : ℕ) (rows : List OpcodeRow) (o : OpcodeRows a b last rows) (op : ℕ) (h : op < 256) (l : op ≤ last) where
  pub length_is : (get_or rows op empty).length ≡ length_of (get_or a.types op [])
  length_is = ap (λ (row : OpcodeRow). row.length) (o op h l)

  pub new_length_is : (get_or rows op empty).new_length ≡ length_of (new_row a b (0 ∷ op ∷ []))
  new_length_is = ap (λ (row : OpcodeRow). row.new_length) (o op h l)

pub length_some : (last : ℕ) (rows : List OpcodeRow) → RowsKnown last rows → (op : ℕ) → op < 256 → op ≤ last → 1 ≤ (get_or rows op empty).length
length_some last rows k op h l = omega (arith, length_is k.from k.into last rows k.are op h l)

-- what is promised, under any contexts with these rows
abbrev pub Promised : List OpcodeRow → ℕ → List ℕ → List ℕ → Result ℕ Refusal → Type 0
Promised rows last s map r = (a b : Context) → OpcodeRows a b last rows → PlacesMarked a b (decode_body a.types last s) (length s) map r

-- n instructions are marked, and those from `at` on complete the walk
pub record Going (rows : List OpcodeRow) (last : ℕ) (s map₀ map : List ℕ) (new n at : ℕ) : Type 0 where
  pub below : n ≤ at
  pub inside : at ≤ length s
  pub small : new ≤ 65 * at
  pub same : length map ≡ length map₀
  pub left : (a b : Context) → OpcodeRows a b last rows → (map' : List ℕ) (r : Result ℕ Refusal)
      → Ends a b (length s) (decode_from (length s - n) a.types last s at) map new n map' r → Ends a b (length s) (decode_body a.types last s) map₀ 0 0 map' r

pub start : (rows : List OpcodeRow) (last : ℕ) (s map : List ℕ) → Going rows last s map map 0 0 0
start rows last s map = record {
  below = omega arith;
  inside = omega arith;
  small = omega arith;
  same = refl;
  left = λ a b o map' r g. rw sub-zero at g;
}

module _ (rows : List OpcodeRow) (last : ℕ) (s map₀ map : List ℕ) (new n at : ℕ) (k : RowsKnown last rows) (f : length s < length map₀) (z : map₀ ≡ replicate (length map₀) 0) (g : Going rows last s map₀ map new n at) where
  places : (a b : Context) (map' : List ℕ) (r : Result ℕ Refusal) → Ends a b (length s) (decode_body a.types last s) map₀ 0 0 map' r
      → PlacesMarked a b (decode_body a.types last s) (length s) map' r
  places a b map' r (done rs e q m) = marked rs e (q ∙ ap Ok (omega arith)) (rw m (marks_mapped a b rs (length s) map₀ (chain a.types last s rs e) f z))
  places a b map' r (stops x e q) = refuses x e q

  -- at the end
  pub ended : length s ≤ at → Promised rows last s (set map at (new + 1)) (Ok n)
  unfolding marks_from
  ended h a b o =
      let e : at ≡ length s = omega (arith, g.inside) in
      places a b _ _ (g.left a b o _ _ (done [] (at_end a.types last s (length s - n) at h) (ap Ok (omega arith)) (ap (λ (x : ℕ). set map x (new + 1)) e)))

  module _ (h : at < length s) where
    less : length s - n ≡ suc (length s - (n + 1))
    less = omega (arith, g.below)

    -- at an opcode beyond the largest
    pub stopped : last < get_or s at 0 → Promised rows last s map (Err (Beyond at))
    stopped l a b o =
        places a b _ _ (g.left a b o _ _ (stops (Beyond at) (rw less (at_beyond a.types last s (length s - (n + 1)) at h l)) refl))

    module _ (l : get_or s at 0 ≤ last) (u : get_or s at 0 < 256) where
      abbrev row : OpcodeRow
      row = get_or rows (get_or s at 0) empty

      next_is : (a b : Context) → OpcodeRows a b last rows → at + row.length ≡ at + length_of (row_at a.types s at)
      next_is a b o = ap (λ (x : ℕ). at + x) (length_is a b last rows o (get_or s at 0) u l)

      -- at an instruction that is cut
      pub broken : length s - at < row.length → Promised rows last s map (Err (Cut at))
      broken c a b o =
          places a b _ _ (g.left a b o _ _ (stops (Cut at) (rw less (at_cut a.types last s (length s - (n + 1)) at (at + row.length) (next_is a b o) h l (omega arith))) refl))

      pub turn : row.length ≤ length s - at → Going rows last s map₀ (set map at (new + 1)) (new + row.new_length) (n + 1) (at + row.length)
      turn c =
          let some = length_some last rows k (get_or s at 0) u l in
          record {
            below = omega (arith, g.below);
            inside = omega arith;
            small = omega (arith, g.small, k.lengths (get_or s at 0) u l);
            same = length-set map at (new + 1) ∙ g.same;
            left = λ a b o map' r t.
                let q = record_of (row_at a.types s at) s at in
                let d = at_more a.types last s (length s - (n + 1)) at (at + row.length) (next_is a b o) h l (omega arith) in
                g.left a b o map' r (rw (less, d) (more_ends a b (length s) q _ map new n map' r (rw (new_length_is a b last rows o (get_or s at 0) u l) at t)));
          }
