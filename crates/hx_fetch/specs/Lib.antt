-- what callers need
pub mod Fetches
pub mod Names
pub mod Picks
pub mod World
-- views of the code, for the contracts of private functions
pub mod Views
pub mod ReaderView
