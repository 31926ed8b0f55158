pub mod Sizes
pub mod Rows
pub mod WorldCodec
pub mod Fitting
pub mod Snapshots
pub mod Hashed
