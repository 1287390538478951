pub mod NameLaws
pub mod UnderLaws
