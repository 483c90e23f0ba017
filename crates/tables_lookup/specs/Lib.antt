pub mod First
pub mod Ty
pub mod Signature
pub mod Name
pub mod Answer
pub mod Lent
