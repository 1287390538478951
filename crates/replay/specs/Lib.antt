pub mod Words
pub mod Lent
pub mod Cases
pub mod Performs
pub mod Turns
