use mathlib.Core.Path.{ap, ◌∙◌}
use Prim.Native.Nat.{ℕ, ◌+◌, ◌*◌, ◌/◌}
use Rattle.lists.proofs.Aheads.{same_ahead}
use Rattle.spec_numbers.specs.LittleEndian.{le_bytes}
use Rattle.carry.proofs.KeptLaws.{word_bytes}
use Rattle.carry.proofs.instructions.copy_instruction.Goals as goal

pub returns : goal.returns
returns c =
    let a = c.args in
    let p = c.requires in
    same_ahead
    (ap (λ (v : ℕ). le_bytes (a.row.length) (v / 256 * 256 + a.row.opcode)) c.read_of_eight-word.ensures
    ∙ word_bytes a.s.now a.at (a.row.length) (a.row.opcode) (λ i. (c.shared_slice_known-1.given i).fits) p.0 p.2 p.3 p.1)
    c.put_word.ensures
