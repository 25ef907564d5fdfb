pub mod Parts
pub mod Passes
