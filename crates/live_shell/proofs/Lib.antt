pub mod Turning
pub mod Turns
pub mod Sendings
pub mod Visiting
