pub mod Text
pub mod Comment
pub mod Split
pub mod Line
pub mod Token
pub mod Assemble
pub mod Operation
