-- Laws of an instruction's name and of how many operands it has. Assumes nothing.
use mathlib.Core.Path.{◌≡◌, refl, sym}
use mathlib.Core.Bool.{Bool, true, false}
use Prim.Native.Nat.{ℕ, suc, ◌+◌, ◌-◌, ◌≤◌, ◌<◌}
use native.Mathlib.Omega.{arith}
use mathlib.Core.List.{List, [], ◌∷◌}
use borrow.Author.Tests.{eq-eqb, ne_eqb}
use lib.ListN.{length, take, drop}
use lib.Seq.{drop-drop}
use Rattle.std.specs.Prelude.{Some, None}
use Rattle.lists.specs.Choice.{pick}
use Rattle.lists.specs.Scan.{run}
use Rattle.lists.specs.Found.Found.{found}
use Rattle.lists.proofs.Parts.{tail_part}
use Rattle.slices.specs.Answers.{found_of}
use Rattle.slices.proofs.SearchLaws.{was_at, was_missing}
use Rattle.spec_sheet.specs.Sheet.{find_name, has_name}
use Rattle.spec_sheet.specs.Row.{length_of, count_of}
use Rattle.spec_inputs.specs.Context.{Context}
use Rattle.spec_hasm.specs.Text.{is_white, is_solid}
use Rattle.spec_hasm.specs.Split.{split_outside, tokens, instruction_name, instruction_operands}
use Rattle.spec_hasm.specs.Line.{opcode_named}
use Rattle.spec_hasm.specs.Assemble.{Assembled, LabelLine, Code, on_name, unless_bad_name, found_in, row_of}
use Rattle.answers.specs.declared.refusal.Refusal.TheVariants.{UnknownName, OperandCount}
use Rattle.hasm_labels.specs.NameReads.{code_of, RefusedBy, Sized}

-- an opcode that was found is one of the rows
pub found_inside : (s name : List ℕ) (k : ℕ) (rows : List (List ℕ)) (o : ℕ) → find_name s name k rows ≡ found o → o < k + length rows
unfolding find_name
found_inside s name k [] o e = absurd (let z : ◌≡◌ {A = ℕ} 0 1 = cc e in omega (arith, z))
found_inside s name k (r ∷ rows) o e = go (found_inside s name (suc k) rows o) (has_name s name r) e
  where
    go : (find_name s name (suc k) rows ≡ found o → o < suc k + length rows) → (b : Bool) → pick b (found k) (find_name s name (suc k) rows) ≡ found o → o < k + suc (length rows)
    go ih true f = let z : k ≡ o = cc f in omega (arith, z)
    go ih false f = omega (arith, ih f)

-- so it is below their number
pub row_below : (s name : List ℕ) (rows : List (List ℕ)) (o : ℕ) → Some o ≡ found_of (find_name s name 0 rows) → length rows ≡ 256 → o < 256
row_below s name rows o e l = omega (arith, found_inside s name 0 rows o (was_at (find_name s name 0 rows) (sym e)))

found_in_lem : (o : ℕ) → found_in (found o) ≡ o
unfolding found_in
found_in_lem o = refl

-- the instruction s on line n: its name ends at k, and the operands behind it start at a
module _ (e : Context) (n : ℕ) (s : List ℕ) (k : ℕ) (p : k ≡ 0 + run is_solid s) where
  name_is : instruction_name s ≡ take k s
  unfolding instruction_name
  name_is = let z : run is_solid s ≡ k = omega (arith, p) in rw z

  pub name_unknown : None ≡ found_of (opcode_named e (take k s)) → RefusedBy e n s (UnknownName n)
  unfolding unless_bad_name on_name
  name_unknown f labels cs rest = rw (name_is, was_missing (opcode_named e (take k s)) (sym f))

  module _ (o : ℕ) (f : Some o ≡ found_of (opcode_named e (take k s))) (a : ℕ) (q : a ≡ k + run is_white (drop k s)) where
    named : opcode_named e (instruction_name s) ≡ found o
    named = rw name_is (was_at (opcode_named e (take k s)) (sym f))

    counted : (given : ℕ) → given ≡ length (tokens (split_outside (take (length s - a) (drop a s)))) → length (instruction_operands s) ≡ given
    unfolding instruction_operands
    counted given r =
        let z : run is_solid s ≡ k = omega (arith, p) in
        rw (z, drop-drop (run is_white (drop k s)) k s, sym q, r, tail_part s a)

    module _ (given : ℕ) (r : given ≡ length (tokens (split_outside (take (length s - a) (drop a s))))) where
      pub name_miscounted : (given ≡ count_of (row_of e o) → ⊥) → RefusedBy e n s (OperandCount n)
      unfolding unless_bad_name on_name
      name_miscounted m labels cs rest = rw (named, counted given r, ne_eqb given (count_of (row_of e o)) m)

      passing : given ≡ count_of (row_of e o) → (labels : List LabelLine) (cs : List Code) (rest : Assembled) → unless_bad_name e (code_of n labels s ∷ cs) rest ≡ unless_bad_name e cs rest
      unfolding unless_bad_name on_name
      passing m labels cs rest = rw (named, counted given r, eq-eqb given (count_of (row_of e o)) m)

      pub name_sized : given ≡ count_of (row_of e o) → (m : ℕ) → m ≡ length_of (row_of e o) → m ≤ 65 → Sized e n s m
      name_sized c m l b = record { passes = passing c; size = λ labels. rw (named, found_in_lem o) (sym l); short = b }
