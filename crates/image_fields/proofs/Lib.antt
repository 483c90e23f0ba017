-- What the proofs of several functions and crates use.
pub mod Tests
pub mod Inverse
pub mod Answers
pub mod Numbers
pub mod Tables
pub mod Rules
pub mod Columns
pub mod Faults
