-- Reading and writing undo each other.
pub mod Parts
pub mod Runs
pub mod TablesWritten
pub mod TablesReadBack
pub mod ExprWritten
pub mod ExprReadBack
pub mod StmtBytes
pub mod BodyWritten
pub mod BodyReadBack
pub mod TablesValid
pub mod ExprValid
pub mod BodyValid
pub mod AllBytes
