pub mod Kept
pub mod Beside
pub mod Joined
