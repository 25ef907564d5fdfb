pub mod Types
pub mod Fitting
pub mod Integers
pub mod Pointers
pub mod Objects
pub mod Changes
pub mod WellTyped
pub mod Scalars
