pub mod EndLaws
pub mod UnderLaws
pub mod EndedLaws
pub mod TableLaws
pub mod AreaLaws
