pub mod Words
pub mod PlainLine
pub mod ViewScript
pub mod Answer
