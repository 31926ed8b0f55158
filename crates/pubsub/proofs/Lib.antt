pub mod Indexed
pub mod Lookups
pub mod Names
pub mod Subscriptions
pub mod Tight
