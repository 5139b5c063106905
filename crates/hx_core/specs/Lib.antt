-- what callers need
pub mod World
pub mod Answers
pub mod Steps
pub mod Telling
pub mod Unseen
-- views of the code, for the contracts of private functions
pub mod AnswerView
pub mod Faults
pub mod StepView
