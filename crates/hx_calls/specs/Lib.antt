-- What callers need:
pub mod Forms
pub mod Codes
pub mod Values
pub mod Arguments
pub mod Tables
pub mod Expressions
pub mod Known
pub mod TableSpecs
pub mod Sound
pub mod Criteria
pub mod Formats
pub mod ExpressionRelation
pub mod FormatRelation
pub mod ExpressionHeads
-- Views of the code, for private contracts alone:
pub mod KnownView
pub mod FormatView
