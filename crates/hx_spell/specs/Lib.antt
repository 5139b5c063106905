-- What callers need, the relation first.
pub mod Flags
pub mod Patterns
pub mod Declarations
pub mod Conditions
pub mod Actions
pub mod Lines
pub mod PatternRelation
pub mod AclRelation
pub mod ConditionRelation
pub mod ActionRelation
pub mod Relation
pub mod Heads
-- Views of the code, for private contracts alone:
pub mod FlagView
pub mod PatternView
pub mod ActionView
pub mod ConditionView
pub mod LineView
