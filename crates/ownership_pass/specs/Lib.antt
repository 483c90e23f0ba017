pub mod Entries
pub mod Promise
