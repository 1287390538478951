pub mod Reader
pub mod Value
pub mod Write
