pub mod Chain
pub mod Backward
pub mod Hash
pub mod Keys
