-- What callers of the crate need: the reader's clauses, and what they rest on.
pub mod RefusalCode
pub mod Line
pub mod Beginning
pub mod Record
pub mod InOrder
pub mod State
pub mod Asking
pub mod Reading
-- Views of the code, which private contracts alone cite.
pub mod LineView
pub mod PieceView
pub mod Parts
pub mod Room
pub mod Window
pub mod Fields
