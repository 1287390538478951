pub mod HexLaws
pub mod TableLaws
pub mod JobLaws
pub mod JobTrials
