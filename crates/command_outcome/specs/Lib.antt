pub mod Outcome
pub mod ProgramText
pub mod ProgramEnd
