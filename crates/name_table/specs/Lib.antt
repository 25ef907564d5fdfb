pub mod Names
pub mod Nesting
pub mod Laws
