pub mod Records
pub mod Zeros
