pub mod Hex
pub mod Table
pub mod Job
pub mod Printed
