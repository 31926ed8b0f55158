pub mod PlainHub
pub mod Isolation
pub mod Held
