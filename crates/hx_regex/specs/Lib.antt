-- What searches of a regular expression are known to search for.
pub mod Searches
