pub mod Config
pub mod Programs
