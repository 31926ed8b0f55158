pub mod Heap
pub mod Queue
pub mod View
