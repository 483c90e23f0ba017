pub mod Walks
pub mod Ends
pub mod Places
