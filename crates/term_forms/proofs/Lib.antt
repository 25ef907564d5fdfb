pub mod Nodes
pub mod Kids
pub mod Signed
pub mod Sums
