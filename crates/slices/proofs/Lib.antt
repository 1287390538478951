pub mod SearchLaws
pub mod CopyLaws
pub mod ClassLaws
pub mod SameLaws
pub mod BlockLaws
