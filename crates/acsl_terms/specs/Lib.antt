pub mod Leaves
pub mod Steps
pub mod Calls
pub mod Terms
