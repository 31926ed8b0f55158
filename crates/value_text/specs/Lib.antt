pub mod ValueText
pub mod Reading
pub mod Answer
