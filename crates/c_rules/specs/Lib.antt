pub mod Integers
pub mod Pointers
pub mod Operators
