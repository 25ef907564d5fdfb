pub mod Values
pub mod Storing
pub mod Keeping
pub mod Opening
pub mod Leaving
pub mod Arriving
pub mod Writes
pub mod Calls
pub mod Statements
pub mod Levels
pub mod Whole
mod Examples
