pub mod ValueLemmas
pub mod ExpressionLemmas
pub mod HeadLemmas
pub mod ExpressionTextLemmas
pub mod CountLemmas
pub mod KindLemmas
pub mod CastLemmas
