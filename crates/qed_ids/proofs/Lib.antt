pub mod Nodes
pub mod Sorts
