-- For callers: the size of a generated input, its texts, and what is told of the answers to it.
pub mod Sizes
pub mod Numbers
pub mod Files
pub mod Record
pub mod Summary
