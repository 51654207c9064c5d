pub mod ChunkLaws
pub mod TargetLaws
