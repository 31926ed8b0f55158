pub mod Held
pub mod Index
pub mod Topics
