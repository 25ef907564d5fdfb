pub mod Readings
pub mod Terms
pub mod Words
pub mod Typed
pub mod Worlds
pub mod Laws
pub mod Places
pub mod Examples
