-- For callers: the lists, and what pins them.
pub mod Blanks
pub mod HeaderValues
pub mod NamedValues
pub mod Laws
-- Views of the code, for private contracts: the search for the end of a line's first piece, and what
-- a piece has under a name.
pub mod HeaderScan
pub mod PieceValues
