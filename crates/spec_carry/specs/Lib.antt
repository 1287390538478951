pub mod Meaning
pub mod Cases
pub mod Passes
pub mod Carry
pub mod PlainTexts
pub mod FirstIds
