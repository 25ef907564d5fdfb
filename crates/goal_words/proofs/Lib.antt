pub mod Naming
pub mod Numerals
pub mod Front
