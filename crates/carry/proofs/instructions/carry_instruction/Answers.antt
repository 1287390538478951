use mathlib.Core.Path.{◌≡◌, ap, sym, ◌∙◌}
use mathlib.Core.List.{◌∷◌}
use Prim.Native.Nat.{ℕ, ◌+◌, ◌-◌}
use native.Mathlib.Omega.{arith}
use denote.Enum.Bare.{same_true}
use borrow.Author.Rules.{rules}
use lib.Dec.{leb}
use borrow.Author.Tests.{leb-true}
use Rattle.lists.specs.Scan.{part}
use Rattle.lists.proofs.Tests.{both_left}
use Rattle.lists.proofs.Aheads.{same_ahead}
use Rattle.spec_sheet.specs.Row.{length_of, total_width}
use Rattle.carry.specs.contracts.opcodes.State.{the_type}
use Rattle.carry.proofs.KeptLaws.{instruction_copied}
use Rattle.carry.proofs.InstructionLoop.{one_byte}
use Rattle.carry.proofs.instructions.carry_instruction.Goals as goal

pub copy_instruction-requires : goal.copy_instruction-requires
copy_instruction-requires c =
    let g = c.requires.0 in
    let few = leb-true (length_of g.planning.row) 8 (both_left (leb (length_of g.planning.row) 8) _ (g.state (same_true the_type (search rules) _ _ (sym c.if-eq.ensures)))) in
    (c.if-place-s.true, g.known, omega (arith, g.size), omega (arith, g.size, few))

pub returns-then-place-s : goal.returns-then-place-s
returns-then-place-s c = λ g x i m z y e here.
    let a = c.args in
    let w : a.row.length - 1 ≡ total_width g.planning.row = omega (arith, g.size) in
    instruction_copied x i a.place.old a.place.new a.s.now (λ i. (c.type_inv.s i).fits) a.row.opcode g.planning.row g.planning.row' a.block.now a.n _ _
    (g.state (same_true the_type (search rules) _ _ (sym c.if-eq.ensures))) (g.planning.planned.size ∙ sym g.planning.planned.size') g.planning.room
    (same_ahead (ap (λ (k : ℕ). a.row.opcode ∷ part a.s.now (a.place.old + 1) k) w) c.copy_instruction.ensures)

pub returns : goal.returns
returns c = λ g x i m z y e here.
    record { block₁ = _; b = _; opcode_put = same_ahead (one_byte _ g.known) c.put_word-b.ensures; operands = c.carry_operands.ensures g.planning x i m z y e here }
