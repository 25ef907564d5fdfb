pub mod Bitwise
pub mod Marks
