pub mod Returning
pub mod Telling
