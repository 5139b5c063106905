-- why a request has its verdict, and how that is written
pub mod Why
-- the statements by which verdicts are explained, and the numbers of references
pub mod Statements
-- which entry goes before the others, by a rank
pub mod Ranks
