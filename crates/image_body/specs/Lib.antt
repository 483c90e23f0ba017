pub mod Expr
pub mod Stmt
pub mod Node
pub mod Stands
pub mod Depth
pub mod Answer
