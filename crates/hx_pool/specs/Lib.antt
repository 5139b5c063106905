-- definitions that the contracts of public calls cite
pub mod Pool
pub mod Chain
-- views of private types, and what they end as once a borrow of one ends
pub mod Memory
pub mod Slots
pub mod Linking
pub mod Lends
