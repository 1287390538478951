pub mod ReaderRead
pub mod ReaderAbove
pub mod ReadResult
pub mod ReaderLaws
pub mod ReaderTrials
pub mod ReadLaws
pub mod ValueLaws
pub mod WriteLaws
