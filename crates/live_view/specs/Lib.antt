pub mod Lines
pub mod Said
pub mod Live
pub mod Script
pub mod Doing
pub mod View
pub mod Looking
