pub mod Keyframes
pub mod Answer
