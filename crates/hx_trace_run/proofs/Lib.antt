pub mod AgreementLemmas
pub mod DifferenceLemmas
pub mod CheckLemmas
pub mod CheckReplayLemmas
pub mod CheckStatusLemmas
pub mod RecordLemmas
pub mod WordsLemmas
