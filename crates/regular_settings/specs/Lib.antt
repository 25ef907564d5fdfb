pub mod Shapes
pub mod View
