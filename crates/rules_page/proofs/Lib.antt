-- Rows by computation, then what holds of every page.
pub mod Rows
pub mod Shape
pub mod Reading
pub mod Numbers
