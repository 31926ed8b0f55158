pub mod Refusals
pub mod Requests
pub mod Answers
pub mod Batches
pub mod Standing
