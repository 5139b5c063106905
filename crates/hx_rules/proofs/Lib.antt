mod PatternLemmas
pub mod ActionLemmas
mod TextLemmas
pub mod LineLemmas
pub mod ReplacingLemmas
pub mod PieceLemmas
pub mod RewriteLemmas
pub mod RequestLemmas
pub mod RuleLemmas
pub mod RewritingLemmas
pub mod LawLemmas
pub mod DecidingLemmas
pub mod JudgedLemmas
