-- what callers need
pub mod Types
pub mod Values
pub mod Kinds
pub mod Expressions
pub mod Faults
-- views of the code, for the contracts of private functions
pub mod Built
