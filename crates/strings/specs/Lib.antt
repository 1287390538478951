pub mod Answers
pub mod Turns
pub mod ReadTurns
pub mod Keys
pub mod Order
pub mod States
