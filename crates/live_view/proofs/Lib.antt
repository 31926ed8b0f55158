pub mod Fitting
pub mod Scripts
pub mod Looks
pub mod Leading
pub mod Queues
pub mod Readings
pub mod Machines
