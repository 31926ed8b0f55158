pub mod Feeds
pub mod MemFeed
pub mod LiveSteps
pub mod LiveRun
pub mod Calls
