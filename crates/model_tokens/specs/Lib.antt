pub mod Bytes
pub mod Spelling
pub mod Division
pub mod Reader
pub mod Answer
