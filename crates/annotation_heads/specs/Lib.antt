pub mod View
pub mod Pairs
pub mod Nodes
pub mod Chained
pub mod Gathered
