pub mod Worlds
pub mod Turns
pub mod View
