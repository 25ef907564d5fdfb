pub mod Sorts
pub mod Values
pub mod Operators
pub mod Choices
pub mod Objects
pub mod Contexts
pub mod Chains
pub mod Laws
