pub mod Status
pub mod Drills
pub mod Run
pub mod Calls
pub mod Keeps
pub mod Complete
pub mod LiveEnds
