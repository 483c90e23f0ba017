pub mod Front
pub mod Returns
