pub mod Paths
pub mod Operators
pub mod WellTyped
pub mod Scalars
