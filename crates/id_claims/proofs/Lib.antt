pub mod Views
pub mod Places
pub mod Taking
pub mod Sharing
pub mod Closing
pub mod Contracts
