-- What the proofs of several functions and crates use.
pub mod Numbered
pub mod Whole
pub mod RoundTrip
pub mod AllBytes
pub mod Placed
pub mod Example
