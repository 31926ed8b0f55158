pub mod Held
pub mod KnownOrder
pub mod KnownPlaces
pub mod KnownWeights
