pub mod Changed
pub mod Records
