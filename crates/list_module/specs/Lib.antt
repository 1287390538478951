pub mod Titles
pub mod Modules
