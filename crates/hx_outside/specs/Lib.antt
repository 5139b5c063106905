-- No module here is a view of the code: each names public types alone.
--
-- What the traits and the functions promise, which every caller needs: counts of faults, prefixes
-- that were written or read, logs of reads, which regular expression a text is, and what a maker of
-- them knows.
pub mod Count
pub mod Prefixes
pub mod Log
pub mod Expressions
pub mod Makers
-- The states of the files, sources and sinks of this crate, for whoever makes one.
pub mod MemFiles
pub mod MemSink
pub mod MemSource
pub mod DirFiles
pub mod Adapter
pub mod LogSource
pub mod LogFiles
-- How one public fault turns into another by `?`, and the numbers of faults of patterns.
pub mod Faults
pub mod PatternFaults
