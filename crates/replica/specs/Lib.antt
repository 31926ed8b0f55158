pub mod RealWorlds
pub mod SessionWorlds
pub mod View
pub mod Outbox
pub mod Parts
