pub mod Stmt
pub mod Unit
pub mod View
