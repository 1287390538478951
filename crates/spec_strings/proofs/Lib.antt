pub mod Utf8Laws
pub mod TableSteps
pub mod TableLaws
pub mod EscapeLaws
pub mod EscapeByteLaws
pub mod CharLaws
pub mod StringTrials
