pub mod Queries
pub mod Answer
pub mod InspectText
