pub mod Fits
pub mod Keeping
