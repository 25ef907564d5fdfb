pub mod Values
pub mod Terms
pub mod Regions
