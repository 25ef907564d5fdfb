pub mod Canonical
pub mod Alike
pub mod Laws
pub mod Examples
