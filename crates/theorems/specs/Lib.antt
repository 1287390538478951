pub mod Premises
pub mod Instructions
pub mod Calls
