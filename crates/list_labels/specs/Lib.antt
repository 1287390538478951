pub mod Readable
pub mod Collecting
pub mod Notes
pub mod InstructionNotes
pub mod FlowNames
pub mod OpcodeRows
pub mod Parts
