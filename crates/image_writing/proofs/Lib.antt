-- What the proofs of several functions use, and those of other crates.
pub mod Stores
