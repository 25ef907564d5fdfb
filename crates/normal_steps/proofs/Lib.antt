pub mod Joins
pub mod Saving
pub mod Jumping
pub mod Ways
pub mod Conditions
