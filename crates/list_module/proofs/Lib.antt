pub mod TitleLaws
pub mod ModuleLaws
pub mod ModuleLoop
pub mod ModuleEnd
