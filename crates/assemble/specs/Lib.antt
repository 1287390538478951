pub mod Contexts
pub mod OperandPuts
pub mod BodyPuts
pub mod Going
pub mod Bodies
pub mod Passes
