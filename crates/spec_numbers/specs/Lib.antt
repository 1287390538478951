pub mod LittleEndian
pub mod TwosComplement
pub mod Print
pub mod Parse
pub mod Double
