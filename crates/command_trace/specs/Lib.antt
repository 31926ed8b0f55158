pub mod Steps
pub mod TraceText
