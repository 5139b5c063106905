pub mod LoadedLemmas
