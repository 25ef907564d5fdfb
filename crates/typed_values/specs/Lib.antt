pub mod Kinds
pub mod Declared
pub mod Values
pub mod Files
pub mod Programs
