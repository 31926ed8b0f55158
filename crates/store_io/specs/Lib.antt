pub mod Store
pub mod MemStore
pub mod Stores
pub mod MemStores
