pub mod Sequence
pub mod Around
