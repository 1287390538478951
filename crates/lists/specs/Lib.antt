pub mod Choice
pub mod Scan
pub mod Write
pub mod Text
pub mod Found
