pub mod Lined
pub mod Further
pub mod Told
