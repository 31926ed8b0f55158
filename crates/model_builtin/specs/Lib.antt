pub mod Builtins
pub mod Answer
