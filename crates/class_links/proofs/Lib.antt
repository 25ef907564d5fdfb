pub mod Least
pub mod Forming
pub mod Stepping
