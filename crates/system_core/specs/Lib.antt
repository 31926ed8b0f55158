pub mod InFlight
pub mod Schedules
pub mod Parts
pub mod Systems
pub mod Promises
