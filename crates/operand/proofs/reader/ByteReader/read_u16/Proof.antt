-- `ByteReader::read_u16` meets its contract: the law of a thin read (`ReaderRead.antt`) at `u16_at`. Assumes nothing.
use contract.Running.{tables, tables_of}
use denote.Triple.Spec.{triple_of}
use denote.Triple.Table.{entered}
use Rattle.operand.specs.Reader.{u16_at}
use Rattle.operand.proofs.ReaderRead as thin
use Rattle.operand.proofs.ReadResult.{u16_read}
use Rattle.operand.proofs.reader.u16_at.Symbol as callee-def
use Rattle.operand.proofs.reader.u16_at.Met as callee-thm
use Rattle.operand.specs.contracts.reader.ByteReader.read_u16.Key.{name as #read}
use Rattle.operand.specs.contracts.reader.ByteReader.read_u16 as read
use Rattle.operand.proofs.reader.ByteReader.read_u16.Statement as stated
use Rattle.operand.proofs.reader.ByteReader.read_u16.Code as code

pub read_u16_spec : {M : Type 1} → stated.statement M
unfolding tables_of
read_u16_spec 𝓤 𝓛 𝓜 𝓡 wired =
    entered 𝓤 𝓛.H (triple_of 𝓛 read.signature (read.spec 𝓛 𝓜.mem 𝓡.returns))
    (tables 𝓤 𝓛.H 𝓜 𝓡 𝓡.env).C (tables 𝓤 𝓛.H 𝓜 𝓡 𝓡.env).Λ #read code.function (code.unfolded 𝓤 𝓛.H 𝓜 𝓡 wired)
    (thin.meets u16_read u16_at callee-def.name 𝓛 (tables_of 𝓤 𝓛.H 𝓜 (tables 𝓤 𝓛.H 𝓜 𝓡 𝓡.env))
    (callee-thm.met 𝓤 𝓛 𝓜 𝓡 (code.calls-operand::reader::u16_at 𝓡.env wired)))
