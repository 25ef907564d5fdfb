pub mod Spelled
pub mod Typed
