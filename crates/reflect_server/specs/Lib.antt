pub mod Opening
pub mod Keeping
pub mod Connections
pub mod Passes
pub mod Rounds
pub mod Reflects
pub mod Views
