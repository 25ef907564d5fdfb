pub mod Typing
pub mod Valued
pub mod Variables
pub mod Calling
pub mod Stated
pub mod Whole
