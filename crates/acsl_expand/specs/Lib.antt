pub mod Expansion
pub mod Parts
