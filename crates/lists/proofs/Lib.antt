pub mod Tests
pub mod Parts
pub mod Scans
pub mod Writes
pub mod Aheads
pub mod LeftToWrite
pub mod Clears
pub mod Links
