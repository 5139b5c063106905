pub mod CountLemmas
pub mod NumberLemmas
pub mod TextLemmas
pub mod VerdictLemmas
