pub mod Entry
pub mod Ending
