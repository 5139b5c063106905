-- what callers need
pub mod VersionNumbers
pub mod References
pub mod Uses
pub mod Additions
pub mod Changes
pub mod TableChanges
pub mod Naming
pub mod Numbers
pub mod FileLines
pub mod Costs
pub mod SlotCounts
pub use Rattle.hx_versions.specs.Rows
-- views of the code, for the contracts of private functions
pub mod Kept
pub mod Versions
pub mod TableAnswers
