pub mod Options
pub mod Operand
pub mod Line
pub mod Labels
pub mod Listing
pub mod Module
pub mod Operation
