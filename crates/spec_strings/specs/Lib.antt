pub mod Utf8
pub mod Table
pub mod Escape
pub mod Plain
