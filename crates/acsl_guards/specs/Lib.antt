pub mod Mentions
pub mod Chains
pub mod Guarding
pub mod Parts
pub mod Recursive
pub mod Rules
pub mod Meaning
