pub mod NoFaults
pub mod Compared
pub mod Resolving
