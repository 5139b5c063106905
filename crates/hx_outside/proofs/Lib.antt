pub mod ExpressionLemmas
pub mod PrefixLemmas
