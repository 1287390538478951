pub mod Quotes
pub mod Commas
pub mod Lines
pub mod Refusals
pub mod Statements
