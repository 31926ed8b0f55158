pub mod WorldTests
pub mod OwnWorlds
pub mod Bases
pub mod Replays
pub mod Outboxes
