-- `operand::reader::f64_of` meets its contract: the law of `ReaderAbove.antt` at `ByteReader::read_f64`. Assumes nothing.
use contract.Running.{tables, tables_of}
use denote.Triple.Spec.{triple_of}
use denote.Triple.Table.{entered}
use Rattle.operand.specs.Reader.{f64_at}
use Rattle.operand.proofs.ReaderAbove as above
use Rattle.operand.proofs.ReadResult.{f64_read}
use Rattle.operand.proofs.reader.ByteReader.from.Met as from-thm
use Rattle.operand.proofs.reader.ByteReader.read_f64.Symbol as read-def
use Rattle.operand.proofs.reader.ByteReader.read_f64.Met as read-thm
use Rattle.operand.specs.contracts.reader.f64_of.Key.{name as #own}
use Rattle.operand.specs.contracts.reader.f64_of as own
use Rattle.operand.proofs.reader.f64_of.Statement as stated
use Rattle.operand.proofs.reader.f64_of.Code as code

pub f64_of_spec : {M : Type 1} → stated.statement M
unfolding tables_of
f64_of_spec 𝓤 𝓛 𝓜 𝓡 wired =
    entered 𝓤 𝓛.H (triple_of 𝓛 own.signature (own.spec 𝓛 𝓜.mem 𝓡.returns))
    (tables 𝓤 𝓛.H 𝓜 𝓡 𝓡.env).C (tables 𝓤 𝓛.H 𝓜 𝓡 𝓡.env).Λ #own code.function (code.unfolded 𝓤 𝓛.H 𝓜 𝓡 wired)
    (above.meets f64_read f64_at read-def.name 𝓛 𝓜.mem 𝓡.returns (tables_of 𝓤 𝓛.H 𝓜 (tables 𝓤 𝓛.H 𝓜 𝓡 𝓡.env))
    (from-thm.met 𝓤 𝓛 𝓜 𝓡 (code.calls-operand::reader::ByteReader::from 𝓡.env wired))
    (read-thm.met 𝓤 𝓛 𝓜 𝓡 (code.calls-operand::reader::ByteReader::read_f64 𝓡.env wired)))
