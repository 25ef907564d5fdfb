pub mod Steps
pub mod Firsts
pub mod Branch
pub mod Expansion
pub mod Laws
pub mod Ids
