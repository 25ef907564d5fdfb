pub mod Fitting
pub mod Exact
