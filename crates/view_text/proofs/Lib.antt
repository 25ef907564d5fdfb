pub mod Free
pub mod Lines
pub mod Putting
pub mod Rows
pub mod Taken
pub mod Told
pub mod Whole
pub mod Words
