-- What a caller of `run_diff` needs: what is written of two answers, what is counted, what both
-- configurations do beside one another, outcomes, and the headline; and what a person reads on
-- standard error.
pub mod AnswerParts
pub mod Difference
pub mod Tally
pub mod Verdicts
pub mod Report
pub mod Comparison
pub mod Outcome
pub mod Run
pub mod RunFiles
pub mod Explanation
-- Views of the code, for private contracts.
pub mod Command
pub mod AnswerView
pub mod EnginesView
pub mod RowsView
pub mod RunFault
