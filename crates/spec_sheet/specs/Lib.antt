pub mod Types
pub mod Row
pub mod Scan
pub mod Line
pub mod Sheet
