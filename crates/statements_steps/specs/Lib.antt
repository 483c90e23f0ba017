pub mod Drops
pub mod Statement
pub mod Own
