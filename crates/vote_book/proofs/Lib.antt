pub mod Tallying
pub mod Counting
pub mod Rising
pub mod Verdicts
pub mod Shown
