pub mod Spelled
pub mod Typed
pub mod Order
pub mod Laws
