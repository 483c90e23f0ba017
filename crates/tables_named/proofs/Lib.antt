mod Signature
mod Name
