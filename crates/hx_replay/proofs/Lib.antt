pub mod BeforeReadingLemmas
pub mod CompletedLemmas
pub mod ConfigFileLemmas
pub mod ConfigLemmas
pub mod LogLemmas
pub mod OutcomeLemmas
pub mod ReplayLemmas
pub mod WrittenLemmas
