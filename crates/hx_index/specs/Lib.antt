-- what callers need
pub mod Items
pub mod Parts
pub mod Index
-- views of the code, for the contracts of private functions
pub mod Search
