pub mod Reader
pub mod Lines
pub mod Counts
pub mod Answer
