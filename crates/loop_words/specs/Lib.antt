pub mod Sets
pub mod Words
pub mod Fits
pub mod Laws
pub mod Examples
pub mod Told
