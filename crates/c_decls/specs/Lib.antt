pub mod Each
pub mod Structs
pub mod Enums
pub mod Constants
pub mod Reaching
pub mod Globals
pub mod Laws
