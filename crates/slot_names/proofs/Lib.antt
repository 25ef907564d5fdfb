pub mod Pairs
pub mod Differing
pub mod Fitting
