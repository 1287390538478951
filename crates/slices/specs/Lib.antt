pub mod Answers
pub mod Block
pub mod Class
pub mod Words
