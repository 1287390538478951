-- `ByteReader::remaining` meets its contract: the law of a thin read (`ReaderRead.antt`) at `left_at`. Assumes nothing.
use Prim.Native.Nat.{ℕ, ◌-◌}
use mathlib.Core.List.{List}
use lib.ListN.{length}
use mir.Syntax.{w64, ty_int}
use denote.Builtin.{usize}
use denote.Plain.{uint_Lawful}
use contract.Running.{tables, tables_of}
use denote.Triple.Spec.{triple_of}
use denote.Triple.Table.{entered}
use Rattle.operand.proofs.ReaderRead as thin
use Rattle.operand.proofs.reader.left_at.Symbol as callee-def
use Rattle.operand.proofs.reader.left_at.Met as callee-thm
use Rattle.operand.specs.contracts.reader.ByteReader.remaining.Key.{name as #read}
use Rattle.operand.specs.contracts.reader.ByteReader.remaining as read
use Rattle.operand.proofs.reader.ByteReader.remaining.Statement as stated
use Rattle.operand.proofs.reader.ByteReader.remaining.Code as code

abbrev result : thin.Result
result = record { row = usize; mir = ty_int w64; typed = λ 𝓛 r u is. ((uint_Lawful 𝓛 w64).typed r _ is).0 }

-- what it answers
abbrev left : List ℕ → ℕ → ℕ
left s at = length s - at

pub remaining_spec : {M : Type 1} → stated.statement M
unfolding tables_of
remaining_spec 𝓤 𝓛 𝓜 𝓡 wired =
    entered 𝓤 𝓛.H (triple_of 𝓛 read.signature (read.spec 𝓛 𝓜.mem 𝓡.returns))
    (tables 𝓤 𝓛.H 𝓜 𝓡 𝓡.env).C (tables 𝓤 𝓛.H 𝓜 𝓡 𝓡.env).Λ #read code.function (code.unfolded 𝓤 𝓛.H 𝓜 𝓡 wired)
    (thin.meets result left callee-def.name 𝓛 (tables_of 𝓤 𝓛.H 𝓜 (tables 𝓤 𝓛.H 𝓜 𝓡 𝓡.env))
    (callee-thm.met 𝓤 𝓛 𝓜 𝓡 (code.calls-operand::reader::left_at 𝓡.env wired)))
