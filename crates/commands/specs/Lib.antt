pub mod Verdict
pub mod Keeping
pub mod Work
pub mod Laws
