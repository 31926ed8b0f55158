pub mod Ids
pub mod Passes
pub mod Rules
pub mod Steps
