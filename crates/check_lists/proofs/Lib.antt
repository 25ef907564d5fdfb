pub mod Adding
pub mod Reaching
pub mod Numbering
