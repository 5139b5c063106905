-- what callers need
pub mod Tests
pub mod Matching
pub mod Predefined
pub mod Holds
pub mod Grounds
pub mod Typing
pub mod Expressions
-- views of the code, for the contracts of private functions
pub mod PredefinedView
pub mod TermView
pub mod AclSetView
