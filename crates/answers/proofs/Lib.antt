pub mod NumberLaws
pub mod OutcomeLaws
pub mod SpaceLaws
pub mod ExactLaws
pub mod Shown
