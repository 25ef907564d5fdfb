pub mod Closed
pub mod Sources
