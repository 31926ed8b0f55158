pub mod Answer
pub mod Solving
