pub mod Purely
pub mod Operands
