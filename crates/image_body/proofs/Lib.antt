-- What the proofs of several functions and crates use.
pub mod Columns
pub mod Standing
pub mod Shallow
pub mod Walking
pub mod Skipping
pub mod StmtRead
pub mod Statements
