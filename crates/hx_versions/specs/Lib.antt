-- what callers need
pub mod Rows
pub mod Versions
pub mod NewEntries
pub mod Costs
pub mod Uses
-- how entries and versions lie in slots, for the contracts of private functions
pub mod StoredEntries
pub mod StoredVersions
pub mod Contents
pub mod RestEntries
pub mod Store
pub mod KeptTexts
pub mod NodeNumbers
