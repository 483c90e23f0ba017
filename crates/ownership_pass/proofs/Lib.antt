pub mod Readings
pub mod Numbers
pub mod Promises
pub mod Within
