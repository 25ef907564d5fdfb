pub mod Good
pub mod Apart
pub mod Memories
pub mod Fitting
pub mod Spelled
pub mod Pushing
pub mod Whole
