-- The page by three cursors, and what the proofs of several functions use.
pub mod Cursors
pub mod Texts
pub mod Entries
pub mod Told
