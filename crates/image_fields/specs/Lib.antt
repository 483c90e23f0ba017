pub mod Fault
pub mod Parsed
pub mod Number
pub mod Table
pub mod Bytes
pub mod Answer
