pub mod Nodes
pub mod Values
pub mod Standing
pub mod Files
