-- what callers need
pub mod Seen
pub mod Cast
pub mod Vars
pub mod Keys
pub mod Find
pub mod Tables
pub mod Changes
-- views of the code, for the contracts of private functions
pub mod Slots
pub mod Chains
pub mod Listed
