pub mod ItemLemmas
pub mod HeadTextLemmas
pub mod VerdictLemmas
pub mod StepLemmas
pub mod UnseenEventLemmas
pub mod UnseenRuleLemmas
pub mod UnseenRequestLemmas
pub mod UnseenRunLemmas
