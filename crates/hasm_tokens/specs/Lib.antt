pub mod Values
pub mod Targets
pub mod TextValues
