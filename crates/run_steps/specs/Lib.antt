pub mod Limits
pub mod Steps
pub mod Outside
pub mod Calls
