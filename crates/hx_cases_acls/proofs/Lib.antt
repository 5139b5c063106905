pub mod TakingLemmas
pub mod UseLemmas
pub mod BuildLemmas
pub mod CondLemmas
pub mod DescriptionLemmas
