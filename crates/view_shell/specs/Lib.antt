pub mod ViewText
pub mod Phases
pub mod Viewers
pub mod Hearing
pub mod Flows
pub mod ViewRun
pub mod OneRun
pub mod Agreeing
