pub mod ShapeLaws
pub mod CanonicalLaws
pub mod CanonicalWrites
pub mod CanonicalRecords
pub mod OperandsLoop
pub mod RecordLaws
pub mod RecordsLoop
pub mod EncodeAnswers
