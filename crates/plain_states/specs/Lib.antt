pub mod Slots
pub mod Scopes
pub mod Laws
pub mod Told
