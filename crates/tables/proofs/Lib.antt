-- What the proofs of several functions and crates use.
pub mod Placing
pub mod Names
pub mod Keys
pub mod Types
