pub mod Parts
pub mod CommandWords
pub mod Address
pub mod Bounds
pub mod PartsRead
