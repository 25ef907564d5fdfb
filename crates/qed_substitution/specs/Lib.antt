pub mod Laws
pub mod Substitution
