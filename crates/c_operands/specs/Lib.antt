pub mod Operands
pub mod Conversions
