-- What callers need. For the words of a line:
pub mod Words
pub mod TextItems
pub mod Quoting
pub mod Variable
-- for calls, the relation first:
pub mod CallForm
pub mod Spelling
pub mod Arguments
pub mod Calls
pub mod StepView
-- the numbers of faults:
pub mod Fault
-- A view of private enums of the code, for private contracts alone:
pub mod TokenView
