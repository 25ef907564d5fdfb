pub mod Examples
pub mod Found
pub mod Given
pub mod Held
pub mod Shapes
pub mod Sizes
