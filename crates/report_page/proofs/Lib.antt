pub mod Counts
pub mod Listing
pub mod Parts
pub mod Pieces
pub mod Reading
pub mod Shown
