-- What is written of a text, and what is left. Assumes nothing.
use Rattle.std.specs.Prelude.{◌≡◌, List, [], ℕ, ◌+◌, ◌<◌, ◌≤◌, length, drop, Result, Ok, Err}
use Rattle.lists.specs.Found.{Found}
use Rattle.lists.specs.Scan.{run}
use Rattle.lists.specs.Write.{Put}
use Rattle.limits.specs.Limits.{line_limit}
use Rattle.spec_inputs.specs.Context.{Context}
use Rattle.spec_hasm.specs.Text.{lines_of}
use Rattle.spec_hasm.specs.Assemble.{Assembled, codes_from, codes_of, behind, bytes_from}
use Rattle.spec_hasm.specs.Assemble.Assembled.{not_assembled}
use Rattle.answers.specs.declared.refusal.Refusal.TheVariants.{BadOperand}
use Rattle.hasm_read.specs.Lines.{not_feed, line_in}
use Rattle.assemble.specs.declared.operands.BadOperand as wrong
use Rattle.assemble.specs.declared.operands.Place.{Place}

-- what the lines from `at` on evaluate to, the first of which is line n and whose first instruction has offset o
abbrev pub bytes_at : Context → (List ℕ → Found) → List ℕ → ℕ → ℕ → ℕ → Assembled
bytes_at e labels s at n o = bytes_from e labels o (codes_from e n [] (lines_of (drop at s)))

-- the instructions before line n were written, and those from `at` on are left
pub record Going (e : Context) (labels : List ℕ → Found) (s out₀ out : List ℕ) (at n : ℕ) (place : Place) : Type 0 where
  pub bytes : List ℕ
  pub put : Put out₀ 0 bytes out place.k
  pub left : bytes_from e labels 0 (codes_of e s) ≡ behind bytes (bytes_at e labels s at n place.offset)

-- a line of a text, which 3 does not refuse, and an offset that does not run over
pub record LineAt (s : List ℕ) (at end o : ℕ) : Type 0 where
  pub inside : at < length s
  pub ends : end ≡ at + run not_feed (drop at s)
  pub short : length (line_in s at end) ≤ line_limit
  pub small : o < 2147483648

-- behind line n, which ends in front of `at`: the next line, or that an operand is refused
abbrev pub Turned : Context → (List ℕ → Found) → List ℕ → List ℕ → List ℕ → ℕ → ℕ → Place → Result Place wrong.BadOperand → Type 0
Turned e labels s out₀ out at n place (Ok next) = Going e labels s out₀ out at (n + 1) next × (next.offset ≤ place.offset + 65)
Turned e labels s out₀ out at n place (Err bad) = bytes_from e labels 0 (codes_of e s) ≡ not_assembled (BadOperand bad.fault n bad.operand)
