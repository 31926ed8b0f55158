pub mod WorldSteps
pub mod FrameSteps
pub mod SyncSteps
pub mod Numbers
pub mod Unsent
pub mod CountedWorlds
pub mod Counters
