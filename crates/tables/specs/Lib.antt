pub mod Limits
pub mod Name
pub mod Ty
pub mod Signature
pub mod Tables
pub mod Answer
