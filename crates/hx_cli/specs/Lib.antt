-- what callers need
pub mod CommandLine
pub mod Commands
pub mod Replies
pub mod Effects
pub mod Payloads
pub mod Unseen
-- views of the code, for the contracts of private functions
pub mod ChangeReplies
