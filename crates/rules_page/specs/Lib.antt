pub mod Page
pub mod Verdict
