pub mod Spelling
pub mod Counting
