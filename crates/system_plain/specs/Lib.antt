pub mod System
pub mod Turn
pub mod Steps
pub mod Schedule
pub mod ConnectionLine
pub mod Traffic
