pub mod CheckLaws
pub mod ProgramLaws
pub mod Numbered
