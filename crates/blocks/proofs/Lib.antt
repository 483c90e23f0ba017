pub mod Standing
pub mod Ending
pub mod Branching
pub mod Thens
