pub mod Written
pub mod Tables
pub mod Body
pub mod Valid
pub mod Small
