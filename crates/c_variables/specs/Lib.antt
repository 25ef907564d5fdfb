pub mod Contexts
pub mod Variables
