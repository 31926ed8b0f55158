pub mod Orders
pub mod Replies
pub mod Pulls
pub mod Openings
