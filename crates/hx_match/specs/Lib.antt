-- what callers need
pub mod Patterns
-- views of the code, for the contracts of private functions
pub mod Needles
pub mod Read
