pub mod Walks
pub mod Due
