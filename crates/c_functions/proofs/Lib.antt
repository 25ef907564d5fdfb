pub mod Parameters
pub mod Parts
