pub mod Messages
pub mod World
pub mod Valid
pub mod ValidTest
pub mod Equality
pub mod WorldCode
pub mod Ids
pub mod Order
