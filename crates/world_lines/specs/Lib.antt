pub mod WorldLines
pub mod WorldText
