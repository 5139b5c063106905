mod ChunkLemmas
mod SlotLemmas
pub mod PoolLemmas
pub mod ChainLemmas
mod LinkingLemmas
mod ChainSteps
mod MemoryLemmas
mod PlaceLemmas
pub mod LyingLemmas
pub mod ListLemmas
