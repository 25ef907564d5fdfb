pub mod Solid
pub mod Laws
pub mod Examples
