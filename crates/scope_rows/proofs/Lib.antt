-- What the proofs of several functions use; Elsewhere, what callers use.
pub mod Rowing
pub mod Joined
pub mod Copied
pub mod Elsewhere
