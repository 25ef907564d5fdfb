pub mod Others
pub mod Parts
pub mod Runs
pub mod Exact
