pub mod Tree
pub mod Operands
