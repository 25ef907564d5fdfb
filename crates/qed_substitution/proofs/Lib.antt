pub mod Booleans
pub mod Kids
pub mod Names
pub mod Replaced
pub mod Substituted
