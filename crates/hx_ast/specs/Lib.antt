-- No module here is a view of the code: each names public types alone.
--
-- What callers need: which arguments a fetch or a converter may have, of which type what they give
-- is, and which parts an ACL, a condition and a statement may have.
pub mod Names
pub mod Fetches
pub mod Convs
pub mod Types
pub mod Acls
pub mod Predefined
pub mod Actions
pub mod Statements
