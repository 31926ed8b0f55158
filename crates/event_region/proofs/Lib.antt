pub mod ChunkLaws
pub mod LastChunk
