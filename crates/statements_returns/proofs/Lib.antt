-- What the proofs of several functions and crates use.
pub mod Fronts
pub mod Surely
