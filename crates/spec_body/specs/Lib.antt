pub mod Record
pub mod Decode
pub mod Starts
pub mod Function
pub mod Encode
pub mod Recode
pub mod Operation
