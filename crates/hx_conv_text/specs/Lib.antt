-- what callers need
pub mod Pieces
pub mod Texts
pub mod UrlDecoding
pub mod Substitution
pub mod Converters
pub mod Replacements
pub mod Cuts
pub mod Building
-- views of the code, for the contracts of private functions
pub mod Scanning
pub mod Built
pub mod Captured
pub mod Writing
pub mod Letters
