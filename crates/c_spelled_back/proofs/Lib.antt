pub mod Parts
pub mod Values
pub mod Leading
pub mod Places
pub mod Operators
pub mod Changes
pub mod Leaves
pub mod Expressions
