-- One line of a text, written. Assumes nothing.
use mathlib.Core.Path.{◌≡◌, ap, sym, ◌∙◌}
use mathlib.Core.List.{List}
use Prim.Native.Nat.{ℕ, ◌+◌, ◌-◌}
use native.Mathlib.Omega.{arith}
use Rattle.lists.specs.Found.{Found}
use Rattle.lists.specs.Scan.{part}
use Rattle.spec_inputs.specs.Context.{Context}
use Rattle.spec_hasm.specs.Line.{statement_of}
use Rattle.spec_hasm.specs.Line.Statement.{labelled, instruction}
use Rattle.hasm_read.specs.Lines.{line_in}
use Rattle.hasm_read.specs.Statements.{StatementIn}
use Rattle.hasm_read.specs.declared.statement.Statement.TheVariants as read
use Rattle.hasm_labels.proofs.LineTurns.{was_nothing, was_label, was_code}
use Rattle.assemble.specs.BodyPuts.{InstructionPut}
use Rattle.assemble.specs.Going.{Going, LineAt, Turned}
use Rattle.assemble.specs.declared.operands.Place.{Place}
use Rattle.assemble.specs.declared.operands.BadOperand.{BadOperand}
use Rattle.std.proofs.Common.{Result, Ok, Err, ◌⊎◌, inl, inr}
use Rattle.hasm_read.specs.declared.statement.Statement.{Statement}
use Rattle.assemble.proofs.BodyLoop.{body_nothing, body_label, body_written, body_refused}

module _ (e : Context) (labels : List ℕ → Found) (s : List ℕ) (at end : ℕ) (place : Place) (h : LineAt s at end place.offset) (l : List ℕ) (i : l ≡ line_in s at end)
    {out₀ out : List ℕ} {n : ℕ} (g : Going e labels s out₀ out at n place) where
  pub turn_nothing : StatementIn (statement_of e l) l read.Nothing → Turned e labels s out₀ out (end + 1) n place (Ok place)
  turn_nothing r = (body_nothing e labels g end h.inside h.ends (rw i at (was_nothing (statement_of e l) l r)), omega arith)

  pub turn_label : (a m : ℕ) → StatementIn (statement_of e l) l (read.Label a m) → Turned e labels s out₀ out (end + 1) n place (Ok place)
  turn_label a m r =
      let x : statement_of e (line_in s at end) ≡ labelled (part l a m) = ap (statement_of e) (sym i) ∙ (was_label (statement_of e l) l a m r).0 in
      (body_label e labels g end h.inside h.ends (part l a m) x, omega arith)

  pub turn_none : (r : Statement) → StatementIn (statement_of e l) l r → (r ≡ read.Nothing) ⊎ ((a : ℕ) × (m : ℕ) × (r ≡ read.Label a m)) → Turned e labels s out₀ out (end + 1) n place (Ok place)
  turn_none r u (inl q) = turn_nothing (rw q at u)
  turn_none r u (inr q) = turn_label q.0 q.1 (rw q.2 at u)

  pub turn_code : (a b : ℕ) → StatementIn (statement_of e l) l (read.Instruction a b) → (out' : List ℕ) (r : Result Place BadOperand) → InstructionPut e labels (part l a (b - a)) place out out' r
      → Turned e labels s out₀ out' (end + 1) n place r
  turn_code a b u out' (Ok next) w =
      let x : statement_of e (line_in s at end) ≡ instruction (part l a (b - a)) = ap (statement_of e) (sym i) ∙ (was_code (statement_of e l) l a b u).0 in
      (body_written e labels g end h.inside h.ends (part l a (b - a)) x w.bytes out' next w.operands w.put w.offset, w.near)
  turn_code a b u out' (Err bad) w =
      let x : statement_of e (line_in s at end) ≡ instruction (part l a (b - a)) = ap (statement_of e) (sym i) ∙ (was_code (statement_of e l) l a b u).0 in
      body_refused e labels g end h.inside h.ends (part l a (b - a)) x bad.fault bad.operand w
