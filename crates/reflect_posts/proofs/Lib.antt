pub mod Finals
pub mod Ones
pub mod RowLaws
pub mod Unused
