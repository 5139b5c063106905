-- what callers need
pub mod Converters
pub mod Inputs
pub mod Numbers
pub mod Addresses
pub mod Encodings
-- views of the code, for the contracts of private functions
pub mod Forms
