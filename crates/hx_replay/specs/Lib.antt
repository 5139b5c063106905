-- What a program is and what its record is, what a configuration loads as, what a record is answered
-- by whatever answers it, and what a person is told of a run that ended.
pub mod Behavior
pub mod Program
pub mod Configs
pub mod ConfigFiles
pub mod Counting
pub mod Records
pub mod Outcome
pub mod Replay
pub mod Explanation
-- Views of the code, for contracts of programs and private ones.
pub mod Gathering
