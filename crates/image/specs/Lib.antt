pub mod Image
pub mod Layout
pub mod Valid
