pub mod Shares
pub mod Stops
pub mod MemShares
pub mod MemSharedNets
