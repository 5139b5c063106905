pub mod ListLemmas
pub mod StepLemmas
pub mod OneLemmas
pub mod LastLemmas
pub mod FoundLemmas
pub mod NamedLemmas
pub mod LineLemmas
