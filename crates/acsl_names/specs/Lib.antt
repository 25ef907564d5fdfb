pub mod Names
pub mod Sites
pub mod Labels
pub mod Counting
pub mod Weights
