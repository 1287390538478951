pub mod AsciiLaws
pub mod EscapeTurns
pub mod BareLaws
pub mod UnescapeTurns
pub mod TextWalk
