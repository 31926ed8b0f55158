pub mod Bounds
pub mod Lists
pub mod Spelled
pub mod Words
