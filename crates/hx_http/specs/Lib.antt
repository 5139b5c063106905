-- For callers: the parts of a head, what a request's bytes begin with, the path and the query of a
-- target, edits, and the lines of a head as a text.
pub mod Parts
pub mod Head
pub mod Target
pub mod Edits
pub mod Text
-- Beneath `Head`: the lines of a head. Callers cite `head_of` and the laws of it alone.
pub mod Lines
-- A view of the code, for private contracts: the spans at which a message's parts lie.
pub mod Spans
