pub mod NewNames
pub mod MemoryNames
pub mod Givens
pub mod Changes
pub mod Laws
pub mod Ids
