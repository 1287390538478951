pub mod Report
pub mod Refusals
pub mod Outcome
pub mod Numbers
pub mod Space
pub mod Answers
