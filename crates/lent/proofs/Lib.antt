-- What the proofs of several functions use, and the theorems about report records.
pub mod Records
pub mod Reports
pub mod Stacks
