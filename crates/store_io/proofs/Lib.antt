pub mod Tearing
pub mod Held
