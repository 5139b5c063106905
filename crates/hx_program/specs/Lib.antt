-- What contracts of these calls speak of: words and variables, texts in parts, tables of texts, the
-- version, and what is known of the files that were read and of the reader of an output.
pub mod Machine
pub mod Parts
pub mod Tables
pub mod Version
pub mod KnownFiles
pub mod Watched
