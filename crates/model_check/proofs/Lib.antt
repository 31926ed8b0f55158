pub mod First
pub mod Places
pub mod Trees
pub mod Words
pub mod Scopes
pub mod Blocks
pub mod Faultless
pub mod Programs
