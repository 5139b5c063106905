pub mod HeadlineLemmas
pub mod QuotedLemmas
pub mod RunLemmas
