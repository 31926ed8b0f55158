pub mod ObjectAt
pub mod Order
pub mod Totals
pub mod ValidTests
mod Distinct
mod Held
mod Neighbours
