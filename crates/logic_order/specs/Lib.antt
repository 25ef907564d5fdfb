pub mod Names
pub mod Recursive
pub mod Simple
pub mod Order
pub mod Laws
pub mod Examples
