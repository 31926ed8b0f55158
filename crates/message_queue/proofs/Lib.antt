pub mod Before
pub mod Filtered
pub mod Held
pub mod InOrder
pub mod Messages
pub mod Order
pub mod Sifts
