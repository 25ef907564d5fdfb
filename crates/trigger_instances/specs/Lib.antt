pub mod Ids
pub mod Puts
