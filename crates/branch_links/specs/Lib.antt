pub mod BranchLinks
pub mod Numbered
pub mod Laws
