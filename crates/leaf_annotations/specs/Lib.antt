pub mod Closed
pub mod Sorted
pub mod Laws
