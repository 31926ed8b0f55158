pub mod Reflects
pub mod Prepares
