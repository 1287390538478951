pub mod Canonical
pub mod RecordPlaces
pub mod OperandsWritten
pub mod Written
pub mod Encoding
