pub mod Constants
pub mod Ways
pub mod Spelled
