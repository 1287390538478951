pub mod Answers
pub mod TypeWords
pub mod Lines
pub mod NameFilter
pub mod Rows
pub mod Sheets
pub mod Keys
pub mod Families
