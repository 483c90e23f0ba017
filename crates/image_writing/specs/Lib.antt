pub mod Stored
pub mod Memory
