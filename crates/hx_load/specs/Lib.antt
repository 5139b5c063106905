-- What a caller of `load` needs: the configuration, the references that it brings, what it loads
-- as, and which files are read for it.
pub mod Configuration
pub mod Loads
pub mod Files
pub use Rattle.hx_filling.specs.References
-- Views of the code, for private contracts.
pub mod Loading
pub mod Judging
pub mod LineReading
pub mod LoadResult
