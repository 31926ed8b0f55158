pub mod Worlds
pub mod PlainReplica
pub mod Taking
pub mod Calls
pub mod Following
