pub mod Single
pub mod Plain
pub mod Jumps
pub mod Typed
pub mod Laws
