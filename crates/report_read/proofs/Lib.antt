pub mod Fronts
pub mod Many
pub mod Spelled
pub mod Summary
pub mod Whole
