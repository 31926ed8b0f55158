pub mod Counts
pub mod Posts
pub mod Shares
pub mod Passes
pub mod Rounds
pub mod Hosts
