pub mod Cells
pub mod Types
pub mod Ways
pub mod Reading
pub mod Typing
pub mod Files
pub mod Programs
