pub mod RegionState
pub mod Chunks
pub mod Kept
