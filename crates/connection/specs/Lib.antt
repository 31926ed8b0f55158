pub mod Exchanges
pub mod Phases
pub mod Talk
pub mod Standing
pub mod Causes
pub mod TalkServed
