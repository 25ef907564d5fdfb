pub mod Sights
pub mod Shapes
pub mod Serving
pub mod Laws
pub mod Examples
