pub mod Membership
pub mod Naming
pub mod Runs
