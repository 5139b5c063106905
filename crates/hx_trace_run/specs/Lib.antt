-- What a caller of `run_trace` needs: what the words ask for, what is found of a trace and the text
-- that it should be, and what a person reads on standard error. What is written of a trace is said
-- by `hx_run`.
pub mod Words
pub mod Comparing
pub mod Checking
pub mod CheckFiles
pub mod Explanation
-- Views of the code, for private contracts.
pub mod Command
pub mod AgreementView
pub mod EngineView
pub mod CheckView
