pub mod Context
pub mod Inputs
