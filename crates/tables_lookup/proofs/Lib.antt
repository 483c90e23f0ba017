-- What the proofs of several functions use.
pub mod First
pub mod Ty
pub mod Lower
pub mod Example
pub mod Lent
