-- What a caller needs: the references, the files that are read for them, and what `fill` answers.
pub mod Refusals
pub mod References
pub mod Files
pub mod FillResult
-- Views of the code, for private contracts.
pub mod Declaring
pub mod Filling
pub mod Adding
