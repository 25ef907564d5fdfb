pub mod Worlds
pub mod Giving
pub mod Operands
pub mod Examples
