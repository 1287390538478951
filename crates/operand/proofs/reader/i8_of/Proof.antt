-- `operand::reader::i8_of` meets its contract: the law of `ReaderAbove.antt` at `ByteReader::read_i8`. Assumes nothing.
use contract.Running.{tables, tables_of}
use denote.Triple.Spec.{triple_of}
use denote.Triple.Table.{entered}
use Rattle.operand.specs.Reader.{i8_at}
use Rattle.operand.proofs.ReaderAbove as above
use Rattle.operand.proofs.ReadResult.{i8_read}
use Rattle.operand.proofs.reader.ByteReader.from.Met as from-thm
use Rattle.operand.proofs.reader.ByteReader.read_i8.Symbol as read-def
use Rattle.operand.proofs.reader.ByteReader.read_i8.Met as read-thm
use Rattle.operand.specs.contracts.reader.i8_of.Key.{name as #own}
use Rattle.operand.specs.contracts.reader.i8_of as own
use Rattle.operand.proofs.reader.i8_of.Statement as stated
use Rattle.operand.proofs.reader.i8_of.Code as code

pub i8_of_spec : {M : Type 1} → stated.statement M
unfolding tables_of
i8_of_spec 𝓤 𝓛 𝓜 𝓡 wired =
    entered 𝓤 𝓛.H (triple_of 𝓛 own.signature (own.spec 𝓛 𝓜.mem 𝓡.returns))
    (tables 𝓤 𝓛.H 𝓜 𝓡 𝓡.env).C (tables 𝓤 𝓛.H 𝓜 𝓡 𝓡.env).Λ #own code.function (code.unfolded 𝓤 𝓛.H 𝓜 𝓡 wired)
    (above.meets i8_read i8_at read-def.name 𝓛 𝓜.mem 𝓡.returns (tables_of 𝓤 𝓛.H 𝓜 (tables 𝓤 𝓛.H 𝓜 𝓡 𝓡.env))
    (from-thm.met 𝓤 𝓛 𝓜 𝓡 (code.calls-operand::reader::ByteReader::from 𝓡.env wired))
    (read-thm.met 𝓤 𝓛 𝓜 𝓡 (code.calls-operand::reader::ByteReader::read_i8 𝓡.env wired)))
