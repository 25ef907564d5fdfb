pub mod Order
pub mod Listing
pub mod Maps
pub mod Values
pub mod Terms
pub mod Functions
pub mod Worked
