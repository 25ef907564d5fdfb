pub mod View
pub mod Branches
