pub mod Whole
pub mod Effects
pub mod Steps
pub mod Before
pub mod Lists
pub mod Faults
pub mod Plain
