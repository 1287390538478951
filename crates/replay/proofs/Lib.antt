pub mod WordLaws
pub mod LentLaws
pub mod CaseLaws
pub mod PerformLaws
pub mod OperationLaws
pub mod TurnLaws
