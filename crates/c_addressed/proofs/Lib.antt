pub mod Values
pub mod Operators
pub mod Places
pub mod Expressions
