pub mod Plain
pub mod View
pub mod PlainCode
pub mod Spelling
pub mod Reading
pub mod Payload
pub mod Room
