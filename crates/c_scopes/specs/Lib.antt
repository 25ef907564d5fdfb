pub mod Declarations
pub mod Meanings
pub mod Levels
pub mod Extents
pub mod Laws
