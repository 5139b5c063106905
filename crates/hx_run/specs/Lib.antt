-- What a caller of `run` needs: outcomes and the headline; what is said beside it of versions that
-- are never committed; and what a person reads on standard error.
pub mod Outcome
pub mod Run
pub mod Generated
pub mod RunFiles
pub mod Unseen
pub mod Explanation
-- Views of the code, for private contracts.
pub mod Command
pub mod RunFault
