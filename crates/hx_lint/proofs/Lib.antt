pub mod JudgingLemmas
pub mod TextLemmas
pub mod WrittenLineLemmas
