pub mod OperandLaws
pub mod OperandsLoop
pub mod LinesLoop
pub mod WrittenLaws
pub mod BodyLaws
pub mod EndLaws
pub mod OperationLaws
pub mod FunctionLaws
