pub mod Running
pub mod Objects
pub mod Answer
