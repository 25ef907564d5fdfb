pub mod Names
pub mod Globals
pub mod Functions
pub mod Files
