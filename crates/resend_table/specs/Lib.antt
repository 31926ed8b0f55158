pub mod Stands
pub mod Noted
