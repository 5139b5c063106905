-- No module here is a view of the code: each names public types alone.
--
-- What callers need: which number, address or network a text writes, where a text is cut, which
-- IPv4 address an IPv6 address stands for, what a printed address looks like, and the match
-- methods.
pub mod Number
pub mod Cut
pub mod Printing
pub mod Address
pub mod Network
pub mod Methods
pub mod Mapping
