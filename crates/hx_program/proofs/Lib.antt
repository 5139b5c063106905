pub mod KnownFilesLemmas
pub mod MachineLemmas
pub mod PartsLemmas
