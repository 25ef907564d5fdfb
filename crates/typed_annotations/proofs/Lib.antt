pub mod Naming
pub mod Slots
pub mod Reading
pub mod Fits
pub mod Ends
pub mod Sets
pub mod Regions
pub mod Contracts
